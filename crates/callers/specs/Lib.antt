pub mod Abbreviations
pub mod Commits
pub mod Offsets
pub mod Printed
pub mod References
