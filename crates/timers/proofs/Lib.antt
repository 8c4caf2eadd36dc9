pub mod WalkLaws
pub mod RefusalLaws
pub mod PlaceLaws
