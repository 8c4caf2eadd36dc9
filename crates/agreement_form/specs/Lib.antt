pub mod Decoded
pub mod Words
pub mod Form
