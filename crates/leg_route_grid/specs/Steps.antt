-- Intermediate state of the code, and what crates of one algorithm know of one another. No promise of a command rests on it.
pub mod Lines
pub mod LayerList
pub mod Joining
pub mod SlotSides
pub mod SlotRanges
pub mod Boxes
pub mod WalkBounds
pub mod SlotNeighbours
pub mod NodesInRect
pub mod TrackMarks
pub mod NodeNumbers
pub mod Grid
pub mod Hulls
