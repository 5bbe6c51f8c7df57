-- Intermediate state of the code, and what crates of one algorithm know of one another. No promise of a command rests on it.
pub mod NextWires
pub mod NetRun
pub mod RunSoFar
pub mod Stops
pub mod Ready
pub mod EndSlots
pub mod NetEnds
pub mod NetSlots
pub mod JoinedPart
pub mod NetLists
pub mod RunEnd
