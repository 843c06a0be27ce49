pub mod FrameLaws
pub mod Nameless
