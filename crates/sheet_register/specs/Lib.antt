pub mod Memory
pub mod Calls
pub mod Register
pub mod Runs
pub mod Law
