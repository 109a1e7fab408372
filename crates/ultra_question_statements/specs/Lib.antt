pub mod ByContext
pub mod ByIndex
pub mod LastPage
pub mod QuestionRefusals
pub mod MapAsBytes
pub mod EveryBuffer
pub mod BoardText
pub mod Witness
