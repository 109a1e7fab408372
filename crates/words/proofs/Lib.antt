pub mod Widths
pub mod Stores
pub mod Numbers
pub mod Rounding
pub mod NumberBytes
pub mod Comparisons
