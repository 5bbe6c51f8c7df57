-- The metal of a design.
pub mod Outline
pub mod Nets
pub mod Owner
pub mod Metal
pub mod Pieces
pub mod Flat
pub mod MoreWires
