pub mod Writing
pub mod Stores
