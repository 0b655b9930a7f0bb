pub mod Limits
pub mod Table
pub mod Refusals
pub mod Fault
pub mod Asked
