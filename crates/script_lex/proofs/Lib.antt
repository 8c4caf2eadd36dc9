pub mod Cases
pub mod WordLaws
pub mod NumberLaws
pub mod SignedLaws
