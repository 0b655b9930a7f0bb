pub mod WaysUp
pub mod Nesting
pub mod Betweens
pub mod Rows
pub mod Costs
pub mod GapTests
pub mod OrderOfTests
pub mod KindsOfSlip
