pub mod Session
pub mod Line
