pub mod YesLaws
pub mod First
pub mod AlikeLaws
pub mod LoopLaws
