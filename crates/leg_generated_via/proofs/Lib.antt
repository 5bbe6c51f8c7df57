-- Clauses of a generated via.
mod ViaPairs
mod DrawnClauses
-- The pattern of its cuts.
mod CutPatterns
-- The rectangles.
mod EachNumber
mod ArraySides
pub mod ReadArrays
