pub mod WritingLemmas
mod Taking
pub mod SealedLemmas
pub mod LineLemmas
