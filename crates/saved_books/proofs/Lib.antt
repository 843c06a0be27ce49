pub mod SaveLaws
