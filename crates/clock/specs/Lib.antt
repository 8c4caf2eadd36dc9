pub mod Clock
pub mod Numbers
pub mod Calls
pub mod Samples
pub mod Passing
