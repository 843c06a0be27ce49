pub mod ForgiveLaws
pub mod ForwardLaws
