-- Boxes, rows and lists
mod Elements
mod OnRow
-- The theorem of the run
mod OneMove
mod SettledPlaces
mod RunSoFar
mod TheOrder
mod TheRun
-- The order of taking
mod TurnKeyOrder
-- Causes of refusal
mod StayingFaults
mod SiteMarks
mod Misfits
-- Places that are taken
mod AfterPlaces
mod MovedDistances
mod Totals
-- The best place of a component
mod BestSeat
-- The loop over the components
mod RunBoxes
mod Choices
-- One outcome
mod OneRun
-- Positions by unit squares
mod FreePlaces
-- What can be told to hold or not
mod Decisions
mod Listings
mod Squares
mod Orientations
mod RowTests
mod FaultTests
mod FaultLists
mod BestFree
-- An outcome
mod Outcomes
-- What the proofs of other crates cite
pub mod OneList
pub mod OneOutcome
