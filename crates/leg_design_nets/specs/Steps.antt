-- What the code knows on its way. No meaning of a public call speaks of it.
pub mod Index
pub mod Pins
