-- What the calls that make the list of differences have of it in between.
pub mod Listing
pub mod Words
