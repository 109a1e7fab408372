pub mod Checks
pub mod Stepping
pub mod Walking
