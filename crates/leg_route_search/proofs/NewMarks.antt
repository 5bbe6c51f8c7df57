-- Marks, and what a new one changes.
use Rattle.std.proofs.Common.{◌≡◌, ℕ, ◌+◌, ◌<◌, false, cond, List, [], ◌∷◌, ◌++◌, length, get_or, slice_set, slice_get, count_by, Some, ◌⊎◌, inl, inr, refl, sym, ap, ◌∙◌, arith}
use Rattle.std.proofs.lemmas.Bool.{cases_eq, false≢true}
use Rattle.std.proofs.lemmas.List.Elements.{Contains-append_left, Contains-push, Contains-push_cases}
use Rattle.std.proofs.lemmas.List.Sums.{sum_by-set}
use Rattle.std.proofs.lemmas.Option.{get_or_from_slice_get, slice_get_within, slice_get-get_or}
use Rattle.std.proofs.Math.ListN.{length-set}
use Rattle.leg_lemmas.proofs.Places.{slice_set_here, slice_set_elsewhere}
use Rattle.leg_route_search.specs.declared.mark.Mark.{Mark}
use Rattle.leg_route_search.specs.declared.mark.Mark.TheVariants.{Unseen, Shut, Reached, Far}
use Rattle.leg_route_search.specs.Steps.Marks.{is_unseen, AreUnseen, IsMark, IsNoted}

-- a node has one mark
pub one_mark : (marks : List Mark) (a : ℕ) (m n : Mark) → IsMark marks a m → IsMark marks a n → m ≡ n
one_mark marks a m n one other = cc (one.is, other.is)

-- an unseen node has none
pub no_mark : (marks : List Mark) (a : ℕ) (m : Mark) → slice_get marks a ≡ Some Unseen → IsMark marks a m → ⊥
no_mark marks a m unseen is =
    let same : Unseen ≡ m = cc (unseen, is.is) in false≢true (sym (ap is_unseen same ∙ is.seen))

-- nor has any where all are unseen
pub unseen_no_mark : (marks : List Mark) (a : ℕ) (m : Mark) → AreUnseen marks → IsMark marks a m → ⊥
unseen_no_mark marks a m unseen is =
    let here : get_or marks a Unseen ≡ Unseen = unseen a Unseen (slice_get_within marks a m is.is) in
    let read : get_or marks a Unseen ≡ m = get_or_from_slice_get marks a m Unseen is.is in
    let same : Unseen ≡ m = sym here ∙ read in false≢true (sym (ap is_unseen same ∙ is.seen))

-- a new mark
pub mark_here : (marks : List Mark) (to : ℕ) (v : Mark) → to < length marks → is_unseen v ≡ false → IsMark (slice_set marks to v) to v
mark_here marks to v within seen = record { is = slice_set_here marks to v within; seen = seen }

-- leaves the others as they were
pub mark_kept : (marks : List Mark) (to : ℕ) (v : Mark) → slice_get marks to ≡ Some Unseen → (a : ℕ) (m : Mark) → IsMark marks a m
    → IsMark (slice_set marks to v) a m
mark_kept marks to v unseen a m is =
    elim (cases_eq a to) [
      | inl same ↦ absurd (no_mark marks to m unseen (rw same at is))
      | inr other ↦ record { is = slice_set_elsewhere marks to a v other ∙ is.is; seen = is.seen }
    ]

-- and is the only new one
pub mark_cases : (marks : List Mark) (to : ℕ) (v : Mark) → to < length marks → (a : ℕ) (m : Mark) → IsMark (slice_set marks to v) a m
    → IsMark marks a m ⊎ ((a ≡ to) × (v ≡ m))
mark_cases marks to v within a m is =
    elim (cases_eq a to) [
      | inl same ↦
          let here : IsMark (slice_set marks to v) to m = rw same at is in
          inr (same, cc (here.is, slice_set_here marks to v within))
      | inr other ↦ inl (record { is = sym (slice_set_elsewhere marks to a v other) ∙ is.is; seen = is.seen })
    ]

-- one node fewer is unseen
pub one_fewer : (marks : List Mark) (to : ℕ) (v : Mark) → slice_get marks to ≡ Some Unseen → is_unseen v ≡ false
    → count_by is_unseen (slice_set marks to v) + 1 ≡ count_by is_unseen marks
one_fewer marks to v unseen seen =
    let within = slice_get_within marks to Unseen unseen in
    let read : get_or marks to Unseen ≡ Unseen = get_or_from_slice_get marks to Unseen Unseen unseen in
    let sums = sum_by-set (λ (m : Mark). cond (is_unseen m) 1 0) marks to v Unseen within in
    rw (read, seen) at sums ∙ omega arith

-- Where all are unseen, none need be noted.
pub noted_none : (marks : List Mark) (noted : List ℕ) → AreUnseen marks → noted ≡ [] → IsNoted marks noted
noted_none marks noted unseen empty = record {
  each = λ a m is. absurd (unseen_no_mark marks a m unseen is);
  within = λ a there. absurd (let some : length noted ≡ 0 = ap length empty in omega (arith, some, there.1));
}

-- A node is noted, and gets a mark.
pub noted_push_mark : (marks : List Mark) (noted : List ℕ) (to : ℕ) (v : Mark) → to < length marks → IsNoted marks noted
    → IsNoted (slice_set marks to v) (noted ++ to ∷ [])
noted_push_mark marks noted to v within so_far = record {
  each = λ a m is. elim (mark_cases marks to v within a m is) [
    | inl old ↦ Contains-append_left noted (to ∷ []) a (so_far.each a m old)
    | inr new ↦ rw new.0 (Contains-push noted to)
  ];
  within = λ a there. elim (Contains-push_cases noted to a there) [
    | inl old ↦ omega (arith, so_far.within a old, length-set marks to v)
    | inr same ↦ omega (arith, same, length-set marks to v)
  ];
}

-- The last node that was noted is unseen again.
pub noted_pop : (marks : List Mark) (noted : List ℕ) (node : ℕ) → IsNoted marks (noted ++ node ∷ []) → IsNoted (slice_set marks node Unseen) noted
noted_pop marks noted node so_far =
    let within : node < length marks = so_far.within node (Contains-push noted node) in record {
      each = λ a m is.
          elim (mark_cases marks node Unseen within a m is) [
            | inl old ↦ elim (Contains-push_cases noted node a (so_far.each a m old)) [
              | inl there ↦ there
              | inr same ↦ absurd (no_mark (slice_set marks node Unseen) node m (slice_set_here marks node Unseen within) (rw (← same) at is))
            ]
            | inr new ↦ absurd (false≢true (sym (ap is_unseen new.1 ∙ is.seen)))
          ];
      within = λ a there. omega (arith, so_far.within a (Contains-append_left noted (node ∷ []) a there), length-set marks node Unseen);
    }

unseen_at : (marks : List Mark) → IsNoted marks [] → (a : ℕ) (m : Mark) → slice_get marks a ≡ Some m → m ≡ Unseen
unseen_at marks so_far a Unseen is = refl
unseen_at marks so_far a Shut is = absurd (omega (arith, (so_far.each a Shut (record { is = is; seen = refl })).1))
unseen_at marks so_far a (Reached level from) is = absurd (omega (arith, (so_far.each a (Reached level from) (record { is = is; seen = refl })).1))
unseen_at marks so_far a (Far steps) is = absurd (omega (arith, (so_far.each a (Far steps) (record { is = is; seen = refl })).1))

-- With no node noted all are unseen.
pub unseen_from_noted : (marks : List Mark) → IsNoted marks [] → AreUnseen marks
unseen_from_noted marks so_far a d within = unseen_at marks so_far a (get_or marks a d) (slice_get-get_or marks a d within)
