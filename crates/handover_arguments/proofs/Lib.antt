pub mod EveryLaws
pub mod GivenLaws
pub mod MeasureLaws
pub mod JudgeLaws
