-- Object stores and the ids that they hold.
pub mod Stores
pub mod Several
