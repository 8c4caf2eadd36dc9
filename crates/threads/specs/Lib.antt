pub mod Thread
