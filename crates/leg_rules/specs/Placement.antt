-- Where components are, and what is wrong with that.
pub mod Box
pub mod Sites
pub mod Violations
