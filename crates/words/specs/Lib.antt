pub mod Words
pub mod Rounding
