-- What the commands print, and what they reject.
pub mod Stores
pub mod Files
