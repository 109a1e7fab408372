pub mod OneByOne
pub mod StoredBytes
pub mod Turns
