-- What came of a call that is made again and again.
pub mod TurnsSoFar
