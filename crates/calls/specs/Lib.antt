pub mod Guard
pub mod Images
pub mod Called
pub mod Run
