pub mod Ownership
pub mod Parts
pub mod Sizes
