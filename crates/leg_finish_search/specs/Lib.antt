pub mod Slots
pub mod Point
pub mod Steps
