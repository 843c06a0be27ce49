pub mod Nodes
pub mod Row
pub mod Sure
