pub mod Nodes
pub mod Tests
pub mod Entry
pub mod Arguments
pub mod Agrees
