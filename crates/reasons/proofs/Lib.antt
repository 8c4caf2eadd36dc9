pub mod TableLaws
pub mod WordLaws
pub mod ReasonLaws
pub mod FitLaws
pub mod FormLaws
pub mod Law
