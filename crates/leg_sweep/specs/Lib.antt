pub mod Pairs
pub mod Counts
pub mod Near
pub mod NearNumbers
pub mod Steps
