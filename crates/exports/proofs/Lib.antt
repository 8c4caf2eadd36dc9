pub mod AnswerLaws
pub mod RecordLaws
pub mod ReadBackLaws
pub mod SizingCallLaws
