pub mod LineLemmas
pub mod Lines
pub mod Parts
pub mod StatusLemmas
pub mod Answered
pub mod FromStores
