pub mod Kept
pub mod Histories
pub mod Once
pub mod Refused
pub mod SameBook
pub mod SoundLeft
pub mod Withdrawals
