pub mod Output
pub mod Spelling
