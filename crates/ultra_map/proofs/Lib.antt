pub mod Entries
pub mod OnePass
pub mod Triples
