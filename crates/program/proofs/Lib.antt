pub mod Speaks
pub mod Script
pub mod Lines
pub mod WaitList
pub mod Theorem
pub mod Example
