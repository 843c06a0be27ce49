pub mod Capped
pub mod Ranges
pub mod Tame
pub mod Demands
pub mod Depth
pub mod Agreement
