pub mod Refusal
pub mod Steps
