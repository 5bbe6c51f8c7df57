-- Words of a kind that every form meets: names, numbers, kept words
pub mod FreeWords
-- A statement, clauses and lists of forms are read back
pub mod Again
-- Names that stand for numbers are found again, and tests on numbers are met
pub mod NumberedNames
pub mod Tests
-- Points, corners and orientations
pub mod Points
-- Each line and entry is read as its form
pub mod PrintableWords
pub mod Rows
pub mod Tracks
pub mod HeaderLines
pub mod Placements
pub mod Components
-- Sections of entries
pub mod Sections
pub mod Clauses
pub mod Vias
pub mod Pins
pub mod Blockages
-- Wires
pub mod GoodVias
pub mod Wires
pub mod DesignWires
-- Nets
pub mod Terminals
pub mod WireWords
pub mod Nets
pub mod NoLonePins
-- The whole text
pub mod FormsInTurn
pub mod Forms
pub mod SectionForms
pub mod Whole
-- What the laws cite
pub mod Entries
