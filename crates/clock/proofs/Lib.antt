pub mod FormLaws
pub mod AdvanceLaws
pub mod ClockLaws
pub mod PassingLaws
