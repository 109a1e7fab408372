pub mod Located
pub mod Searches
