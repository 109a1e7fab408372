pub mod Faithful
pub mod Alike
pub mod Demand3
pub mod Consequences
pub mod Witness
