pub mod PayloadDemand3
pub mod PayloadConsequences
pub mod Witness
pub mod PayloadQuestions
