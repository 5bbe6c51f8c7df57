-- What is known of the starts and ends of a search, and one of them looked at.
use Rattle.std.proofs.Common.{◌≡◌, ℕ, ◌+◌, ◌<◌, ◌≤◌, List, length, get_or, slice_set, inl, inr, ◌∙◌, arith}
use Rattle.std.proofs.lemmas.Bool.{cases_eq}
use Rattle.std.proofs.lemmas.Grind.{get_or-set_at}
use Rattle.std.proofs.lemmas.List.{get_or-set_other}
use Rattle.std.proofs.Math.ListN.{length-set}
use Rattle.leg_route_search.specs.Steps.Starts.{AreLeast}
use Rattle.leg_route_search.specs.declared.mark.Mark.{Mark}
use Rattle.leg_route_search.specs.Steps.Dive.{IsKnownNow}

-- The starts before number k were looked at, with a limit, and the others were before.
pub record AreLooked (bound : ℕ → ℕ) (starts : List ℕ) (told limit k : ℕ) (least : List ℕ) : Type 0 where
  pub one_each : length least ≡ length starts
  pub each : (j : ℕ) → j < length starts → get_or least j 0 ≤ bound (get_or starts j 0)
  pub done : (j : ℕ) → j < k → j < length starts → get_or least j 0 ≤ limit → bound (get_or starts j 0) ≤ limit
  pub rest : (j : ℕ) → k ≤ j → j < length starts → get_or least j 0 < told → bound (get_or starts j 0) < told

pub looked_none : (bound : ℕ → ℕ) (starts : List ℕ) (told limit : ℕ) (least : List ℕ) → AreLeast bound starts told least
    → AreLooked bound starts told limit 0 least
looked_none bound starts told limit least had = record {
  one_each = had.one_each;
  each = had.each;
  done = λ j below. absurd (omega (arith, below));
  rest = λ j above. had.told_near j;
}

pub looked_more : (bound : ℕ → ℕ) (starts : List ℕ) (told limit k : ℕ) (least : List ℕ) (steps : ℕ) → k < length starts → steps ≤ bound (get_or starts k 0)
    → (steps ≤ limit → bound (get_or starts k 0) ≤ limit) → AreLooked bound starts told limit k least
    → AreLooked bound starts told limit (k + 1) (slice_set least k steps)
looked_more bound starts told limit k least steps within low near so_far =
    let here : (j : ℕ) → j ≡ k → get_or (slice_set least k steps) j 0 ≡ steps =
    λ j same. get_or-set_at least k j steps 0 same (omega (arith, within, so_far.one_each)) in
    record {
      one_each = length-set least k steps ∙ so_far.one_each;
      each = λ j there. elim (cases_eq j k) [
        | inl same ↦ rw (here j same, same) low
        | inr other ↦ rw (get_or-set_other least k j steps 0 other) (so_far.each j there)
      ];
      done = λ j below there. elim (cases_eq j k) [
        | inl same ↦ rw (here j same, same) near
        | inr other ↦ rw (get_or-set_other least k j steps 0 other) (so_far.done j (omega (arith, below, other)) there)
      ];
      rest = λ j above there.
          let other : j ≡ k → ⊥ =
          λ same. omega (arith, above, same) in rw (get_or-set_other least k j steps 0 other) (so_far.rest j (omega (arith, above)) there);
    }

pub looked_all : (bound : ℕ → ℕ) (starts : List ℕ) (told limit k : ℕ) (least : List ℕ) → length starts ≤ k → AreLooked bound starts told limit k least
    → AreLeast bound starts (limit + 1) least
looked_all bound starts told limit k least all so_far = record {
  one_each = so_far.one_each;
  each = so_far.each;
  told_near = λ j there few. let is = so_far.done j (omega (arith, there, all)) there (omega (arith, few)) in omega (arith, is);
}

-- One end is looked at.
pub now_set : (marks : List Mark) (ends before known : List ℕ) (k steps : ℕ) → k < length known → IsKnownNow marks (get_or ends k 0) (get_or before k 0) steps
    → ((j : ℕ) → j < k → IsKnownNow marks (get_or ends j 0) (get_or before j 0) (get_or known j 0))
    → (j : ℕ) → j < k + 1 → IsKnownNow marks (get_or ends j 0) (get_or before j 0) (get_or (slice_set known k steps) j 0)
now_set marks ends before known k steps within now done j below = elim (cases_eq j k) [
  | inl same ↦ rw (get_or-set_at known k j steps 0 same within, same) now
  | inr other ↦ rw (get_or-set_other known k j steps 0 other) (done j (omega (arith, below, other)))
]

-- The others are not.
pub rest_set : (before known : List ℕ) (k steps : ℕ) → ((j : ℕ) → k ≤ j → get_or known j 0 ≡ get_or before j 0) → (j : ℕ) → k + 1 ≤ j
    → get_or (slice_set known k steps) j 0 ≡ get_or before j 0
rest_set before known k steps rest j above =
    let other : j ≡ k → ⊥ = λ same. omega (arith, above, same) in rw (get_or-set_other known k j steps 0 other) (rest j (omega (arith, above)))

-- The least number so far is no more than those of the ends so far, and one more.
pub low_set : (known : List ℕ) (k steps least least2 : ℕ) → k < length known → least2 ≤ least → least2 ≤ steps → ((j : ℕ) → j < k → least ≤ get_or known j 0)
    → (j : ℕ) → j < k + 1 → least2 ≤ get_or (slice_set known k steps) j 0
low_set known k steps least least2 within less few low j below = elim (cases_eq j k) [
  | inl same ↦ rw (get_or-set_at known k j steps 0 same within) few
  | inr other ↦ let was = low j (omega (arith, below, other)) in rw (get_or-set_other known k j steps 0 other) (omega (arith, less, was))
]
