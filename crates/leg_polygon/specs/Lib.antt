pub mod Walk
pub mod Inside
pub mod Slab
pub mod Steps
