pub mod Fields
pub mod Stored
pub mod Placed
pub mod PlacedExample
