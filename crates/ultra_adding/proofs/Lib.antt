pub mod Adding
pub mod GivenMembers
