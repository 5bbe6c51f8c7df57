pub mod Legal
pub mod Lines
