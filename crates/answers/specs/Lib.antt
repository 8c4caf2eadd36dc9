pub mod Errors
pub mod Outcome
