pub mod Numbers
pub mod Sweep
