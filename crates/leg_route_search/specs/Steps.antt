-- Intermediate state of the search, and what a caller hands from one search to the next.
pub mod Marks
pub mod Spread
pub mod Starts
pub mod Search
pub mod Back
pub mod Dive
pub mod Side
pub mod SideSteps
