pub mod ReadyWord
pub mod LayoutLaws
pub mod RecordLaws
pub mod Walks
