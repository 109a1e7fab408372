pub mod Lengths
pub mod LinePuts
pub mod ReadingBack
