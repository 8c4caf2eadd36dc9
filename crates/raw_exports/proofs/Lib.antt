pub mod DispatchLaws
pub mod OwnerLaws
