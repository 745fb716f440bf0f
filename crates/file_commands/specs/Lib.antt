pub mod Failures
pub mod Verdicts
