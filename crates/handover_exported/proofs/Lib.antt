pub mod Entries
pub mod Gathered
pub mod SoundExport
pub mod ExportRefusals
pub mod Exports
pub mod EveryExport
pub mod ExportSays
pub mod Witness
