pub mod Beginnings
pub mod AddingRefusals
pub mod GivenRecords
