pub mod Sources
pub mod Limits
pub mod ProperLibrary
pub mod Steps
