pub mod NextLaws
pub mod DueLaws
pub mod CheckLaws
pub mod ExpireLaws
