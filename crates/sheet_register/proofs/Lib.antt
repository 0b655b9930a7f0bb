pub mod Marks
pub mod Agreement
pub mod Steps
pub mod Keeping
mod Accounting
pub mod RunsKept
