pub mod Codes
pub mod Face
pub mod LookUps
pub mod Hashers
