pub mod Fields
pub mod Elements
pub mod OneBit
pub mod PutLaws
pub mod Whole
pub mod Within
pub mod Numbers
pub mod Stretches
