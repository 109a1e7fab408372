pub mod Building
pub mod AddingRefusals
pub mod LateMembers
