pub mod Std
mod CommonBytes
pub mod DigitNumbers
pub mod DigitOrder
mod FirstWords
mod LanePacking
mod LaneReading
mod LaneSpelling
mod LaneValues
mod LineOrder
pub mod ReadLines
mod Masks
pub mod NumberParts
pub mod Packing
pub mod ByteDigits
pub mod ReadingFacts
pub mod ReverseLetters
pub mod Spellings
pub mod WordOrder
