pub mod ReleaseLaws
