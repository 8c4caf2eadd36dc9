pub mod Done
pub mod Absent
