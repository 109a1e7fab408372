pub mod Bounds
pub mod Examples
pub mod LineLaws
