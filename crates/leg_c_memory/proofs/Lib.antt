mod Cell
mod Handover
pub mod Steps
mod Units
mod Values
