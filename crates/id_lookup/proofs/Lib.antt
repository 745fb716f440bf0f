pub mod Beginnings
pub mod OutsidePrefixes
mod Binary
pub mod CommonDigits
pub mod Counting
pub mod FilterCounted
pub mod Filtering
pub mod Filters
pub mod FirstByteCounts
pub mod FirstByteOrder
pub mod Indexes
mod Kept
mod Least
pub mod Matched
pub mod AbbreviationsInPart
mod Neighbours
mod OneKind
mod Ordered
pub mod PartsInOrder
mod Placed
mod Rising
pub mod SameMembers
mod SortedOnce
pub mod Spelled
mod UniqueRun
