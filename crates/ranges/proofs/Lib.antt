pub mod Options
pub mod First
pub mod Every
pub mod Sums
pub mod Single
pub mod Pairs
pub mod Chains
