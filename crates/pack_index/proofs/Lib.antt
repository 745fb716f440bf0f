-- Lemmas of several proofs.
pub mod Buckets
mod ChunkTables
pub mod Counted
mod Cuts
mod Fronts
mod Heads
mod Known
mod Layouts
mod Looked
pub mod LookedUp
pub mod Parts
mod Ranges
pub mod ReadOffsets
mod Refusals
