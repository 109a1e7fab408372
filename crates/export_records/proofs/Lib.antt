pub mod RowLaws
pub mod EntryWords
