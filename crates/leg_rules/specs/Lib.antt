-- The rules: what metal a design has, what is a violation, what each command may do with a design.
pub mod Metal
pub mod Placement
pub mod Spacing
pub mod Joins
pub mod Violations
pub mod Legal
pub mod Legalise
pub mod Route
pub mod Finish
pub mod Wirelength
pub mod Compare
