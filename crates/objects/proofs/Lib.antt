pub mod CountLaws
pub mod FoundLaws
