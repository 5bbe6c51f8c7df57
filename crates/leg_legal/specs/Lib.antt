pub mod FreePlaces
pub mod Refusals
pub mod Outcome
pub mod Steps
