pub mod RootLaws
pub mod Arguments
pub mod Elements
pub mod Meaning
pub mod Bounds
pub mod Sure
