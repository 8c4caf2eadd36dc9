pub mod Place
pub mod Timer
pub mod Dpc
pub mod Queue
pub mod Counts
