-- Intermediate state of the code, and what crates of one algorithm know of one another. No promise of a command rests on it.
pub mod Signatures
