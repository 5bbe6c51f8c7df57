pub mod RequiredSpacing
pub mod CloserShapes
mod AccessBeside
