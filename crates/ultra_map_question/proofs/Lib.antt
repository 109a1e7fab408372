pub mod MapLaws
pub mod MapBytes
