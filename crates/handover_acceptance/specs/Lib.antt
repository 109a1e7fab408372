pub mod PayloadRefusals
pub mod PayloadAcceptance
pub mod Witness
pub mod PayloadUnread
