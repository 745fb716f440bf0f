pub use Rattle.id_digits.proofs.Std
mod Accepted
mod Alphabets
mod BufferEnds
mod Chunks
pub mod CommonBeginnings
pub mod Equalities
mod FrontReading
mod HexReading
pub mod IdDigits
mod IdFacts
mod KeptDigits
pub mod KindFacts
mod LentTexts
mod Made
mod OnlyChunks
mod Packing
mod PlaceLaws
mod Reaching
pub mod ReadingLaws
pub mod SpellingLaws
mod Spellings
