-- The reaches of all layers.
use Rattle.std.proofs.Common.{◌≡◌, ℕ, zero, suc, ◌+◌, ◌<◌, ◌≤◌, List, [], ◌∷◌, ◌++◌, length, get_or, Option, None, Some, slice_get, inl, inr, refl, sym, ap, ◌∙◌, arith}
use Rattle.std.proofs.lemmas.Bool.{cases_lt}
use Rattle.std.proofs.lemmas.Option.{slice_get_past}
use Rattle.leg_lib_records.specs.declared.records.Layer.{Layer}
use Rattle.leg_lib_records.specs.declared.records.LayerKind.{LayerKind}
use Rattle.leg_lib_records.specs.declared.records.LayerKind.TheVariants.{Routing, Cut, Other}
use Rattle.leg_lib_records.specs.Records.{LibraryModel}
use Rattle.leg_drc_rules.specs.Records.{DeckModel}
use Rattle.leg_drc.specs.Steps.Reach.{table_reach_on, net_spacing_on, cut_reach}

past : (reaches : List ℕ) (k : ℕ) → length reaches ≤ k → get_or reaches k 0 ≡ 0
past [] k beyond = refl
past (r ∷ reaches) zero beyond = absurd (omega arith)
past (r ∷ reaches) (suc k) beyond = past reaches k (omega arith)

in_front : (reaches : List ℕ) (r k : ℕ) → k < length reaches → get_or (reaches ++ r ∷ []) k 0 ≡ get_or reaches k 0
in_front [] r k within = absurd (omega arith)
in_front (first ∷ reaches) r zero within = refl
in_front (first ∷ reaches) r (suc k) within = in_front reaches r k (omega arith)

at_end : (reaches : List ℕ) (r k : ℕ) → k ≡ length reaches → get_or (reaches ++ r ∷ []) k 0 ≡ r
at_end [] r k is = rw is refl
at_end (first ∷ reaches) r zero is = absurd (omega arith)
at_end (first ∷ reaches) r (suc k) is = at_end reaches r k (omega arith)

module _ (f : ℕ → ℕ) (reaches : List ℕ) (n : ℕ) (count : length reaches ≡ n) (each : (k : ℕ) → k < n → get_or reaches k 0 ≡ f k) where
  -- one more
  pub reaches_more : (r : ℕ) → r ≡ f n → (k : ℕ) → k < n + 1 → get_or (reaches ++ r ∷ []) k 0 ≡ f k
  reaches_more r is k below = elim (cases_lt k n) [
    | inl low ↦ in_front reaches r k (omega (arith, low, count)) ∙ each k low
    | inr high ↦
        let here : k ≡ n = omega (arith, below, high) in
        at_end reaches r k (here ∙ sym count) ∙ is ∙ sym (ap f here)
  ]

  -- and beyond all there is none
  pub reaches_all : ((k : ℕ) → n ≤ k → f k ≡ 0) → (k : ℕ) → get_or reaches k 0 ≡ f k
  reaches_all none k = elim (cases_lt k n) [
    | inl low ↦ each k low
    | inr high ↦ past reaches k (omega (arith, high, count)) ∙ sym (none k high)
  ]

pub no_table_beyond : (deck : DeckModel) (k : ℕ) → length deck.layers ≤ k → table_reach_on deck k ≡ 0
no_table_beyond deck k beyond = rw (slice_get_past deck.layers k beyond) refl

none_beyond : (deck : DeckModel) (k : ℕ) → length deck.layers ≤ k → net_spacing_on deck k ≡ 0
none_beyond deck k beyond = rw (slice_get_past deck.layers k beyond) refl

pub no_cut_beyond : (library : LibraryModel) (deck : DeckModel) (k : ℕ) → length deck.layers ≤ k → cut_reach library deck k ≡ 0
no_cut_beyond library deck k beyond = by (slice_get library.layers k) refl where
  of_kind : (layer : Layer) (kind : LayerKind) → slice_get library.layers k ≡ Some layer → layer.kind ≡ kind → cut_reach library deck k ≡ 0
  of_kind layer Cut there is = rw (there, is) (none_beyond deck k beyond)
  of_kind layer (Routing direction width) there is = rw (there, is) refl
  of_kind layer Other there is = rw (there, is) refl

  by : (o : Option Layer) → slice_get library.layers k ≡ o → cut_reach library deck k ≡ 0
  by None there = rw there refl
  by (Some layer) there = of_kind layer layer.kind there refl
