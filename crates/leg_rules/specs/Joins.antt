-- Pieces of nets that are joined, and those that are not.
pub mod Touch
pub mod Violations
