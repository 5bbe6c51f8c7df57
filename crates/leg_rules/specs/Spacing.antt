-- Shapes that touch or are too near.
pub mod Comparable
pub mod RequiredSpacing
pub mod Violations
pub mod Closer
pub mod Clean
