pub mod Entries
pub mod Line
