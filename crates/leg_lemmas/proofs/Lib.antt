-- What the proofs of other crates cite: numbers and options
pub mod Integers
pub mod Naturals
pub mod Options
-- Lists: what they contain, what stands at their places, and how they rise
pub mod Contents
pub mod Places
pub mod RisingLists
pub mod Lookups
pub mod Ranges
