pub mod CountersAnswer
pub mod DpcAnswer
pub mod PolicyAnswer
pub mod Reads
