pub mod Initialize
pub mod Reads
pub mod Record
pub mod Release
pub mod TimerAnswer
