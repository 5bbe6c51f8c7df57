-- Intermediate state of the code, and what crates of one algorithm know of one another. No promise of a command rests on it.
pub mod TurnKeys
pub mod Marks
pub mod SiteMarks
pub mod AfterPlaces
pub mod Distances
pub mod Seats
pub mod Boxes
pub mod Choices
