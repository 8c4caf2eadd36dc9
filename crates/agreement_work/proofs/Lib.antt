pub mod Holders
pub mod Puts
pub mod Named
pub mod Armed
pub mod Same
pub mod Counts
pub mod Active
pub mod Work
