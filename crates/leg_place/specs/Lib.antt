pub mod Among
pub mod Steps
