pub mod Calls
pub mod CallsFromC
pub mod Arguments
pub mod Model
pub mod Demand2
pub mod Witness
