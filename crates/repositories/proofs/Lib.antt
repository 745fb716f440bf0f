mod Entries
pub mod HexBytes
mod LineEnds
mod OneKind
mod Quoted
mod Sets
mod Settings
mod Visits
