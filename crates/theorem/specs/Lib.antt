pub mod History
pub mod Theorem
