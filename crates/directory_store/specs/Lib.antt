-- Object stores in directories.
pub mod Loose
pub mod Multi
pub mod Opened
pub mod Packs
pub mod Paths
pub mod Stores
