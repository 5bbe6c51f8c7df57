-- What the code remembers on its way. No meaning of a public call speaks of it.
pub mod Memory
