pub mod SameIds
pub mod SomeBytes
