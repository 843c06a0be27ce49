pub mod RoomLaws
pub mod PlaceLaws
