pub mod BareLaws
pub mod SelfLaws
pub mod ByType
pub mod Gathering
pub mod FirstPlatform
pub mod ExportExamples
