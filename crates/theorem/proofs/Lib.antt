pub mod Agreed
pub mod Start
pub mod Runs
pub mod Theorem
