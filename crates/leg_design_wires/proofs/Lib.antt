-- What leg_design_wires cites: that the words of wiring shorten those that are left, and that wires are well-formed.
pub mod Wirings
pub mod SpecialShapes
pub mod ReadPaths
pub mod ReadWiring
pub mod ReadShapes
-- Paths, item by item.
mod Paths
mod ViaLayers
mod RuleWidths
mod ViaArrays
mod Walks
mod PathItems
