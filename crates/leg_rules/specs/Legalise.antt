-- What legalising a design is.
pub mod Start
pub mod Turns
pub mod Places
pub mod Clear
pub mod Free
pub mod Preference
pub mod Run
pub mod SameButForPlaces
pub mod Moves
pub mod Refusals
