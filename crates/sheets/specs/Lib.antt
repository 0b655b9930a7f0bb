pub mod Marks
pub mod Views
pub mod Answers
pub mod Served
