-- Elements that are the same
mod Decisions
mod ListsAlike
mod Growth
mod WordSearch
mod EntryNames
mod Entries
-- The list of differences
mod Ranks
mod DifferenceLists
mod BetweenRanks
-- The verdict
pub mod Counts
-- Values that can be told apart
mod Codes
mod TerminalSets
-- What legalising and routing change
mod Alike
mod MovedPlaces
mod GrownNets
mod MovedAndGrown
-- Designs without differences
mod SameByName
