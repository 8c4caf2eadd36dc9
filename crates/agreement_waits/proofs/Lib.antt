pub mod Results
pub mod Parked
pub mod Decided
pub mod Delay
pub mod Listing
pub mod Recorded
pub mod Granted
pub mod Waited
