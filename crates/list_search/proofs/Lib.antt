mod ChunkLemmas
mod FinderLemmas
mod IdLines
mod Orders
pub mod Results
mod SkippedLines
mod StopLemmas
