-- What finishing a design is.
pub mod Wires
pub mod Reach
pub mod Refusal
