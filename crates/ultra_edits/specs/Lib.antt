pub mod Opening
pub mod Order
pub mod Splicing
pub mod Edits
pub mod Examples
