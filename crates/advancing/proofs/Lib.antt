pub mod AdvanceLaws
