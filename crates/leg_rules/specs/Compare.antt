-- What differs between two designs.
pub mod Sections
pub mod Spelling
pub mod Differences
pub mod Order
pub mod Verdicts
pub mod EntryOrder
