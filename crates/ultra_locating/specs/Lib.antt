pub mod Passing
pub mod Searching
