pub mod DispatchLaws
pub mod ReadLaws
pub mod OutputLaws
