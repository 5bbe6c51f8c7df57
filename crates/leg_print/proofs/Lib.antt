mod ShapeText
-- The text of a design
pub mod Appends
pub mod SectionText
-- The wirelength
mod LeastBoxes
mod BoxRegisters
mod PointsOfSome
mod DrawnPoints
mod DrawnTerminals
mod TerminalCentres
mod SpecialNames
mod NetCentres
-- What the proofs of other crates cite
pub mod OneWirelength
