pub mod Next
pub mod Due
pub mod Check
pub mod Expire
