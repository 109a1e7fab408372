pub mod ExportList
pub mod AttributeEntries
pub mod ExportExamples
