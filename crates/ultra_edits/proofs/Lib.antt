pub mod Splices
pub mod Lists
pub mod Opening
pub mod Order
pub mod Edits
pub mod OneAttribute
pub mod Examples
