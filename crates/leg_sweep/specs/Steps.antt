-- What the search knows on its way. No meaning of a public call speaks of it.
pub mod Offsets
pub mod Sweep
pub mod Bands
pub mod Grid
pub mod Buckets
pub mod Bounds
pub mod Nodes
pub mod Index
pub mod Cut
pub mod Layers
