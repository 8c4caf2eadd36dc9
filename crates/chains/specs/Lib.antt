pub mod Chain
pub mod Members
pub mod Ready
