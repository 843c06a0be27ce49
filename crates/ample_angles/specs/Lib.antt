pub mod Angle
