pub mod TestLaws
pub mod PayloadAcceptance
pub mod FirstBreak
pub mod Conditions
pub mod PayloadRefusals
pub mod PayloadUnread
pub mod Witness
