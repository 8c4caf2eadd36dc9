pub mod Object
pub mod Lists
