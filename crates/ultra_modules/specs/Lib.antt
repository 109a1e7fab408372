pub mod Modules
pub mod OneByOne
pub mod Turns
