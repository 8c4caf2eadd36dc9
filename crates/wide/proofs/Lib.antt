pub mod Columns
pub mod CheckedLaws
