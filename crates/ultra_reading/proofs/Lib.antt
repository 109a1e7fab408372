pub mod ReadingLaws
pub mod Starred
