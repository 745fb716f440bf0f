-- Sorted lists of ids, the run of a prefix in one, indexes, and the bit length of a number.
pub mod Runs
pub mod Indexes
pub mod Words
