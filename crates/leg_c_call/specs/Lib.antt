pub mod Call
pub mod Explanation
