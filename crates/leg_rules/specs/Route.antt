-- What routing a design is.
pub mod Walk
pub mod Tracks
pub mod Nodes
pub mod Between
pub mod Neighbours
pub mod GridWalk
pub mod StepWires
pub mod OpenMetal
pub mod Meets
pub mod MoreWires
pub mod Spelling
pub mod Run
pub mod SameButForWires
pub mod Result
pub mod GridSize
pub mod Refusals
pub mod Refusal
