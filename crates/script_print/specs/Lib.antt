pub mod Print
pub mod Texts
