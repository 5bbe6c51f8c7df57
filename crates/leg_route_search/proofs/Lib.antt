-- Marks and how they spread
mod NewMarks
mod Spread
mod LeastBounds
mod Sides
-- What the marks say of walks
pub mod ReachedEnds
mod SearchSoFar
mod WayBack
pub mod LastSteps
