pub mod Parts
pub mod AttributeQuestion
pub mod CommandLineQuestion
pub mod ModuleQuestion
