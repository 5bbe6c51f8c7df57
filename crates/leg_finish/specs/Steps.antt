-- Intermediate state of the code, and what crates of one algorithm know of one another. No promise of a command rests on it.
pub mod OpenNets
pub mod Places
pub mod Judgement
pub mod SearchResult
pub mod GroupSlots
pub mod Reach
