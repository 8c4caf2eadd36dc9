pub mod OpenLaws
pub mod SizeLaws
