pub mod BodyLaws
pub mod AttributeLaws
pub mod LineLaws
pub mod ModuleLaws
