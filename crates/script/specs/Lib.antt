pub mod Wait
pub mod Scheduler
pub mod Line
