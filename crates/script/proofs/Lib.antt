pub mod WaitLaws
pub mod LineLaws
pub mod Samples
