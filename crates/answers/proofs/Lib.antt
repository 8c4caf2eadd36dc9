pub mod Converted
pub mod Numbers
