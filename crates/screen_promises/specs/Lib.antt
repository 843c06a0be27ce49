pub mod Unpointed
