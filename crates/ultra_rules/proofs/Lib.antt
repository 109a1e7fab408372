pub mod Every
pub mod Judged
pub mod Letters
