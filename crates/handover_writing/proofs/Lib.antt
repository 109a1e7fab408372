pub mod StoreLaws
pub mod FillLaws
pub mod WriteLaws
