pub mod OfferLaws
pub mod ShiftEnd
pub mod Seen
pub mod Exactly
pub mod Stays
pub mod Finds
pub mod Unchanged
