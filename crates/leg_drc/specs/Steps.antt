-- What the code knows on its way. No meaning of a public call speaks of it.
pub mod Reach
pub mod Candidates
pub mod NearRule
pub mod CutRule
pub mod TableRule
pub mod ShapeParts
pub mod Segments
pub mod Kinds
pub mod Numbers
pub mod CutOff
