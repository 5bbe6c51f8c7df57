-- One word
pub mod Next
-- Statements: what is sought among them, and how a section is cut into them
pub mod Search
pub mod Cuts
-- Tables
pub mod Shapes
pub mod Tables
-- Sections, and the words behind an END
pub mod Memories
-- The words of a text, and texts
pub mod Decks
pub mod Readings
-- Database units
pub mod Scaling
