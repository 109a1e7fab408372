pub mod Lines
pub mod LineOutput
pub mod ReadingBack
