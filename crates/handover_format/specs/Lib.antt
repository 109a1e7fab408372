pub mod Payloads
pub mod Tags
pub mod PayloadLayouts
pub mod PayloadRules
pub mod PayloadDecoding
pub mod Silence
pub mod RecordTests
pub mod WrittenForm
