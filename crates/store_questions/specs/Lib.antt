pub mod Answers
pub mod Failures
pub mod LineReaders
pub mod WholeLines
pub mod Written
