pub mod MoreWires
pub mod Wires
