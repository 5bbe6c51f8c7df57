-- What the commands print.
pub mod Check
pub mod Legalise
pub mod Route
pub mod Finish
pub mod Compare
