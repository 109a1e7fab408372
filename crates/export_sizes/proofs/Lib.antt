pub mod ExtentLaws
