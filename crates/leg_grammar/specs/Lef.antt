-- The forms of a LEF.
pub mod Point
pub mod Polygon
pub mod Copies
pub mod PlacedVia
pub mod Path
pub mod Geometry
pub mod Layer
pub mod GeneratedVia
pub mod Via
pub mod Site
pub mod Pin
pub mod Macro
pub mod MacroSkip
pub mod SkippedForms
pub mod Rule
pub mod Form
pub mod Library
