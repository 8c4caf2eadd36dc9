pub mod SchedulerAnswer
pub mod RecordAnswer
pub mod RecordCall
pub mod ReadBack
pub mod SizingCall
