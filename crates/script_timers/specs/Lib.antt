pub mod Clock
pub mod Dpc
pub mod Timers
