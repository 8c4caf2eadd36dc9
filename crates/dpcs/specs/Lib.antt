pub mod Record
pub mod Named
