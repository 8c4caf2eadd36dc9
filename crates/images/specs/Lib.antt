pub mod Place
pub mod Field
pub mod Image
pub mod Samples
