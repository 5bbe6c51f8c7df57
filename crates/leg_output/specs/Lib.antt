-- What is printed, byte for byte.
pub mod Words
pub mod Names
pub mod Lines
pub mod Text
pub mod Commands
