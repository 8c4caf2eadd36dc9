pub mod PlaceLaws
pub mod FieldLaws
pub mod ImageLaws
pub mod Samples
