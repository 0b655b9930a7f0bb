pub mod Tables
pub mod Shaped
