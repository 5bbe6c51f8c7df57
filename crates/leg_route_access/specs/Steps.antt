-- Intermediate state of the code, and what crates of one algorithm know of one another. No promise of a command rests on it.
pub mod Stretches
pub mod Towards
pub mod FirstWire
pub mod AccessUpdates
pub mod SameShape
pub mod Reaches
pub mod AccessTable
pub mod AccessToNet
pub mod SmallRects
pub mod GridWalk
pub mod NearNeighbours
