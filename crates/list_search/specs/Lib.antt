-- List texts as lines and ids, and the results of searches in them.
pub mod Lists
pub mod SearchStates
pub mod Searches
