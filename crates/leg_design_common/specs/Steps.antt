-- States of tables.
pub mod TurnRow
