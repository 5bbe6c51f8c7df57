-- Boxes of components
mod Places
mod Squares
mod Boxes
-- Sites of rows
pub mod Mirrors
mod SpanOrder
mod KeptSpans
mod CoveredSpans
mod Shift
mod RowSites
mod OnRows
-- Placement blockages
mod MetRects
-- The list of violations
mod Listing
mod Overlaps
mod AnyViolation
-- What the proofs of other crates cite
pub mod PlaceFaults
pub mod ComponentFaults
pub mod OnSites
pub mod BlockageRects
