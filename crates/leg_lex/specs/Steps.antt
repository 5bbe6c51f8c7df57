-- How the words of a text are found. No meaning of a public call speaks of it.
pub mod MoreWords
