-- A closed walk goes through each row of unit squares an even number of times.
use Rattle.std.proofs.Common.{◌≡◌, ℤ, ◌&&◌, Bool, true, false, List, [], ◌∷◌, ◌++◌, get_or, Contains, inl, inr, refl, sym, ap, ◌∙◌}
use Rattle.std.specs.Ordering.{int_eq}
use Rattle.std.specs.Prelude.{int_lt}
use Rattle.std.proofs.lemmas.Bool.{and_parts, not-false}
use Rattle.std.proofs.lemmas.List.Elements.{Contains-append_cases}
use Rattle.leg_lemmas.proofs.Contents.{Contains-nil, Contains-here, Contains-there, Contains-cons_cases, Contains-from_filter}
use Rattle.leg_lemmas.proofs.Integers.{eq_from_test}
use Rattle.leg_geom.specs.Plane.{PointModel}
use Rattle.leg_polygon.specs.Walk.{steps_from, round, has_length, sides}
use Rattle.leg_polygon.specs.Inside.{is_odd, differ, is_above, crosses}
use Rattle.leg_polygon.proofs.Parity.{is_odd-nil, is_odd-cons, is_odd-agree, differ_none, differ_chain, differ_same}
use Rattle.leg_polygon.proofs.ParityLists.{is_odd-filter}

module _ (line : ℤ) where
  -- the steps from one point to another go through the row an odd number of times just where one of the points is above the line
  path_parity : (p : PointModel) (qs : List PointModel) (q : PointModel)
      → is_odd (crosses line) (steps_from p (qs ++ q ∷ [])) ≡ differ (is_above line p) (is_above line q)
  path_parity p [] q =
      is_odd-cons (crosses line) (p, q) [] ∙ ap (differ (crosses line (p, q))) (is_odd-nil (crosses line)) ∙ differ_none (crosses line (p, q))
  path_parity p (r ∷ rs) q =
      is_odd-cons (crosses line) (p, r) (steps_from r (rs ++ q ∷ [])) ∙ ap (differ (crosses line (p, r))) (path_parity r rs q)
      ∙ differ_chain (is_above line p) (is_above line r) (is_above line q)

  round_even : (points : List PointModel) → is_odd (crosses line) (round points) ≡ false
  round_even [] = is_odd-nil (crosses line)
  round_even (p ∷ points) = path_parity p points p ∙ differ_same (is_above line p)

  -- a side without length goes through no row
  flat_crosses : (side : PointModel × PointModel) → has_length side ≡ false → crosses line side ≡ false
  flat_crosses side flat =
      let same_x = int_eq side.0.x side.1.x in
      let same_y = int_eq side.0.y side.1.y in
      let same : side.0.y ≡ side.1.y = eq_from_test side.0.y side.1.y (and_parts same_x same_y (not-false (same_x && same_y) flat)).1 in
      ap (λ y. differ (int_lt line side.0.y) (int_lt line y)) (sym same) ∙ differ_same (int_lt line side.0.y)

  long_crosses : (side : PointModel × PointModel) → (has_length side && crosses line side) ≡ crosses line side
  long_crosses side = by (has_length side) (flat_crosses side) where
    by : (b : Bool) → (b ≡ false → crosses line side ≡ false) → (b && crosses line side) ≡ crosses line side
    by true flat = refl
    by false flat = sym (flat refl)

  pub sides_even : (points : List PointModel) → is_odd (crosses line) (sides points) ≡ false
  sides_even points =
      is_odd-filter (crosses line) has_length (round points)
      ∙ is_odd-agree (λ side. has_length side && crosses line side) (crosses line) (round points) (λ k d within. long_crosses (get_or (round points) k d))
      ∙ round_even points

-- the points of a side are points of the walk
step_ends : (p : PointModel) (qs : List PointModel) (side : PointModel × PointModel) → Contains (steps_from p qs) side
    → Contains (p ∷ qs) side.0 × Contains qs side.1
step_ends p [] side c = absurd (Contains-nil side c)
step_ends p (q ∷ qs) side c = elim (Contains-cons_cases (p, q) (steps_from q qs) side c) [
  | inl here ↦ (rw (← here) (Contains-here p (q ∷ qs)), rw (← here) (Contains-here q qs))
  | inr later ↦
      let rest = step_ends q qs side later in
      (Contains-there p (q ∷ qs) side.0 rest.0, Contains-there q qs side.1 rest.1)
]

back_to_first : (p : PointModel) (ps : List PointModel) (q : PointModel) → Contains (ps ++ p ∷ []) q → Contains (p ∷ ps) q
back_to_first p ps q c = elim (Contains-append_cases ps (p ∷ []) q c) [
  | inl other ↦ Contains-there p ps q other
  | inr last ↦ elim (Contains-cons_cases p [] q last) [
    | inl is ↦ rw (← is) (Contains-here p ps)
    | inr none ↦ absurd (Contains-nil q none)
  ]
]

round_ends : (points : List PointModel) (side : PointModel × PointModel) → Contains (round points) side → Contains points side.0 × Contains points side.1
round_ends [] side c = absurd (Contains-nil side c)
round_ends (p ∷ ps) side c =
    let ends = step_ends p (ps ++ p ∷ []) side c in
    let from : Contains (p ∷ ps) side.0 = elim (Contains-cons_cases p (ps ++ p ∷ []) side.0 ends.0) [
      | inl is ↦ rw (← is) (Contains-here p ps)
      | inr rest ↦ back_to_first p ps side.0 rest
    ] in
    (from, back_to_first p ps side.1 ends.1)

pub side_ends : (points : List PointModel) (side : PointModel × PointModel) → Contains (sides points) side → Contains points side.0 × Contains points side.1
side_ends points side c = round_ends points side (Contains-from_filter has_length (round points) side c).0
