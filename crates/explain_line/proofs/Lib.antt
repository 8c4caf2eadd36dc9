pub mod BesideLaws
pub mod RoomLaws
pub mod Law
