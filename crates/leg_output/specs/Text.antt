-- The text of a design.
pub mod Points
pub mod Clauses
pub mod Header
pub mod Rows
pub mod Tracks
pub mod Vias
pub mod Components
pub mod Pins
pub mod Blockages
pub mod Nets
pub mod Wires
pub mod Sections
pub mod Whole
