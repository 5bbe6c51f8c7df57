-- A component that moves
mod OneOther
mod Moves
mod MovedNets
-- A net that gets wires
mod NetReferences
mod NetWires
mod AllNetWires
-- Parts of a design by their numbers
mod Elements
-- What the proofs of other crates cite
pub mod ComponentMacro
pub mod MovableOrNot
pub mod SameTerminal
pub mod Blank
pub mod FaultNumbers
pub mod EachWith
