-- Elements of lists, which the proofs of other crates cite too
pub mod Elements
