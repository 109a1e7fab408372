pub mod Exports
pub mod ExportRefusals
pub mod EveryExport
pub mod ExportSays
pub mod Witness
