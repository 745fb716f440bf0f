pub mod Failures
pub mod Files
