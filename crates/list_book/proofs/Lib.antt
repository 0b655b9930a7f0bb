pub mod Blaming
pub mod Searching
