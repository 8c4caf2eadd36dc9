pub mod Text
pub mod Words
pub mod Left
pub mod Numbers
pub mod Names
pub mod Arguments
pub mod Location
