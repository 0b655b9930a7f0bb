pub mod Lines
pub mod Listed
pub mod Meaning
pub mod Lawful
pub mod Ascending
