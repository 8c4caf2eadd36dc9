pub mod Chains
pub mod Ready
pub mod Numbers
