pub mod Zipped
pub mod Held
pub mod Located
pub mod AbbreviationsAmong
mod Abbreviated
mod FirstMatches
pub mod PartIds
pub mod Whole
pub mod WholeLocations
pub mod LocationMembers
pub mod LooseParts
pub mod FoundAt
pub mod Reopened
mod Places
mod Prefixes
pub mod Replaced
mod LocatedIds
