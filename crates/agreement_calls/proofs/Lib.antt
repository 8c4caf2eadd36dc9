pub mod Guards
pub mod ThreadReads
pub mod ImageReads
pub mod ReadCalls
pub mod Calls
