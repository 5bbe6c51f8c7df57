-- Lemmas of leg_lemmas, for crates that cite them from here.
pub use Rattle.leg_lemmas.proofs.Contents.{Contains-nil, Contains-here, Contains-there, Contains-cons_cases, All-from_contains, Contains-map}
pub use Rattle.leg_lemmas.proofs.RisingLists.{AllPairs-nil, AllPairs-append_by}
