pub mod ByType
