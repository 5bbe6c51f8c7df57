-- What leg_design cites: that each entry shortens the words that are left, and that the nets of a text are well-formed.
pub mod NetEntries
pub mod ReadTerminals
pub mod ReadNets
pub mod LaterScopes
pub mod ReadLonePins
pub mod EntriesWithLonePins
pub mod LonePins
-- Pins of macros by their names.
mod NamedNumbers
mod PinTables
mod PinLookups
mod PinsOfAll
-- Terminals, and which entry lists them.
mod TerminalLists
mod ListedNets
mod TerminalsOfEntries
mod MoreTerminals
-- Clauses of an entry.
mod NetClauses
