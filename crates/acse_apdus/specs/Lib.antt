pub mod Apdus
