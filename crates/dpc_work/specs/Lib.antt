pub mod Work
pub mod WorkAnswer
