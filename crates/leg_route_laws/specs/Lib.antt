pub mod Growth
pub mod CleanWire
pub mod Lines
pub mod FinishedDesign
pub mod Violations
