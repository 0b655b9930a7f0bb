pub mod Pairs
pub mod Bars
pub mod Surcharges
pub mod Layers
pub mod Piles
pub mod Barring
pub mod Adding
