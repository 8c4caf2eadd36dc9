pub mod PrintLaws
pub mod BareLaws
pub mod RoundTrip
pub mod RoomLaws
pub mod Samples
pub mod TextLaws
