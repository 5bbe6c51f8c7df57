-- Intervals, and numbers in a list
mod Intervals
mod Axes
mod RisingValues
-- Rectangles by their points
mod Corners
mod Touching
-- Turned and moved rectangles
mod Images
-- What the proofs of other crates cite
pub mod Points
pub mod Coordinates
pub mod Gaps
