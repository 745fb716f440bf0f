mod Clones
mod Covers
mod FileNames
mod IndexLists
mod Listed
mod Damage
mod DirectoryTables
mod LooseNames
mod LoosePaths
mod Members
mod Packed
mod PathStates
mod Held
mod LooseMembers
pub mod Wholes
pub mod AllBytes
