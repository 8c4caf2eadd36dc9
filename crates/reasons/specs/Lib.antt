pub mod Grammar
pub mod Reasons
pub mod Read
