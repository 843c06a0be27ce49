pub mod PduLaws
pub mod Sides
