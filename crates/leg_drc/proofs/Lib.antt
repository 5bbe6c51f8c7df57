-- One shape
mod WireShapes
mod GridMultiples
mod DieReach
mod NarrowShapes
mod OffGridShapes
mod WiresOfNets
mod NumbersBelow
mod ShapeNumbers
-- Pairs of shapes
pub mod TableRuns
pub mod Greatest
pub mod Reaches
pub mod TableLimit
pub mod TableShapes
pub mod CandidateList
pub mod CandidatePairs
pub mod NearRects
pub mod TableBound
pub mod RulePairs
-- Pieces of nets
mod MetalMarks
mod CutOffPieces
mod FirstMark
-- All violations
mod FaultLists
