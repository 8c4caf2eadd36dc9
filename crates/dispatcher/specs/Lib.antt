pub mod Dispatch
pub mod Dispatched
pub mod Left
pub mod PlaceAnswer
pub mod Read
pub mod ThreadAnswer
pub mod TimerDue
