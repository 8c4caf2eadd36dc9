pub mod Found
pub mod Objects
