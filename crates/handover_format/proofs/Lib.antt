pub mod PayloadRows
pub mod PayloadDecoded
pub mod Silence
pub mod WrittenLaws
