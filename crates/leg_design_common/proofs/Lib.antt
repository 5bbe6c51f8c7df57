-- What the crates above cite: what every reading keeps, conditions, numbers, points and sections ..
pub mod Gives
pub mod Either
pub mod Guards
pub mod Numbers
pub mod Sections
pub mod Spots
pub mod Polygons
-- .. and that what a place and a polygon say is well-formed.
pub mod ReadPlacement
pub mod ReadPolygons
-- A rectangle that is given by its sides is well-formed.
pub mod Areas
-- Corners.
mod Corners
-- Slabs.
mod SlabSides
-- Rectangles on one layer.
mod MetalRects
-- Clauses.
mod Clauses
-- Numbers by which tables tell their entries.
mod ViaNumbers
mod RuleNumbers
-- Of turned vias, the numbers in a table.
mod TurnRows
