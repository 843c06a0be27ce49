pub mod CountLaws
pub mod Held
