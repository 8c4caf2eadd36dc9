pub mod Row
pub mod Records
pub mod Chains
pub mod Shape
pub mod Agree
pub mod Matches
