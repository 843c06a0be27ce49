pub mod ProtectedLaws
