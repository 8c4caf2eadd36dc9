pub mod Words
pub mod Texts
