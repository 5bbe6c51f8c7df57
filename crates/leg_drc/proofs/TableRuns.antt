-- What is found of a table's runs.
use Rattle.std.proofs.Common.{◌≡◌, ℕ, ◌+◌, ◌<◌, ◌≤◌, ℤ, pos, int_lt, if◌then◌else◌, Bool, true, false, List, [], ◌∷◌, length, get_or, drop, length-drop, drop-cons, add-one, refl, ap, ◌∙◌, arith}
use Rattle.leg_drc.specs.Table.{value_behind}

-- no value is left to be found
none_left : (run value : ℤ) (runs values : List ℤ) → length values ≡ 0 → value_behind run value runs values ≡ value
none_left run value [] values none = refl
none_left run value (first ∷ runs) [] none = refl
none_left run value (first ∷ runs) (other ∷ values) none = absurd (omega arith)

pub value_last : (run value : ℤ) (runs values : List ℤ) (k : ℕ) → length values ≤ k → value_behind run value runs (drop k values) ≡ value
value_last run value runs values k last = none_left run value runs (drop k values) (omega (arith, length-drop k values))

module _ (run value : ℤ) (runs values : List ℤ) (k : ℕ) (in_runs : k < length runs) (in_values : k < length values) where
  -- the value for the next run is found where that lies below
  value_next : value_behind run value (drop k runs) (drop k values)
      ≡ value_behind run (if int_lt (get_or runs k (pos 0)) run then get_or values k (pos 0) else value) (drop (k + 1) runs) (drop (k + 1) values)
  value_next = rw (add-one k, drop-cons runs k (pos 0), drop-cons values k (pos 0)) refl

  abbrev rest : Bool → ℤ
  rest below = value_behind run (if below then get_or values k (pos 0) else value) (drop (k + 1) runs) (drop (k + 1) values)

  pub value_taken : int_lt (get_or runs k (pos 0)) run ≡ true
      → value_behind run value (drop k runs) (drop k values) ≡ value_behind run (get_or values k (pos 0)) (drop (k + 1) runs) (drop (k + 1) values)
  value_taken below = value_next ∙ ap rest below

  -- and isn't where it doesn't
  pub value_left : int_lt (get_or runs k (pos 0)) run ≡ false
      → value_behind run value (drop k runs) (drop k values) ≡ value_behind run value (drop (k + 1) runs) (drop (k + 1) values)
  value_left above = value_next ∙ ap rest above
