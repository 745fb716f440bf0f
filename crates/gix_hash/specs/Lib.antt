-- The model: an id is a kind and a list of digits, and bytes are read two digits a byte. Then hashing.
pub use Rattle.id_digits.specs.Digits
pub mod Reading
pub mod Kinds
pub mod Ids
pub mod Prefixes
pub mod PrefixBytes
pub mod Loans
pub mod Hashing
pub mod Words
