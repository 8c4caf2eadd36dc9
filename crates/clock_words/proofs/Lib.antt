pub mod OffsetLaws
pub mod WordLaws
pub mod PassingLaws
pub mod ReadLaws
