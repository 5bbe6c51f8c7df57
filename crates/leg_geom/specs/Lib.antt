pub mod Plane
pub mod Gap
pub mod Line
pub mod Orientation
pub mod Steps
pub mod Pairs
