-- What the crates above cite: that each form shortens the words that are left ..
pub mod Dies
pub mod Rows
pub mod DroppedRows
pub mod Tracks
pub mod Vias
mod Rules
mod TurnedShapes
mod NewNames
mod TurnedVias
pub mod Components
mod PortVias
pub mod Pins
pub mod BlockageClauses
pub mod Blockages
-- .. and that what a form says is well-formed.
pub mod ReadDie
pub mod ReadRows
pub mod ReadTracks
pub mod ReadVias
pub mod ReadTurnedVias
pub mod ReadComponents
pub mod ReadPins
pub mod ReadBlockages
-- Generated vias.
mod MetalShapes
mod ShapeCounts
mod ReadGeneratedVias
-- Points and masks.
mod Masks
-- Of the clauses, the one that is sought.
mod OneOfKind
