pub mod PayloadGiven
pub mod Judging
pub mod Measures
