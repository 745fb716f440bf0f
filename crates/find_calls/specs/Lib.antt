-- The errors of the calls as causes.
pub mod Errors
