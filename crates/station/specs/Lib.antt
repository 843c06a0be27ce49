pub mod Offers
pub mod Sights
pub mod Binds
pub mod Shifts
pub mod Kept
