-- The vias of an array, one after the other.
use Rattle.std.proofs.Common.{◌≡◌, ℕ, zero, suc, ℤ, ◌+ℤ◌, ◌+◌, ◌-◌, ◌<◌, ◌≤◌, true, false, List, [], ◌∷◌, ◌++◌, Option, None, Some, option_map, refl, sym, ap, ◌∙◌, append_assoc, arith}
use Rattle.std.proofs.lemmas.List.{append-nil}
use Rattle.leg_lex.specs.Words.{◌>>=◌}
use Rattle.leg_geom.specs.Plane.{PointModel}
use Rattle.leg_grammar.specs.declared.via_array.ViaArray.{ViaArray}
use Rattle.leg_design_records.specs.declared.records.Wire.{Wire}
use Rattle.leg_design_records.specs.declared.records.Wire.TheVariants.{ViaAt}
use Rattle.leg_grammar.specs.Def.Guard.{is_within}
use Rattle.leg_grammar.specs.Def.ViaArray.{row_vias, rows_vias}
use Rattle.leg_design_wires.specs.Steps.Walk.{behind}

-- one wire before the others
pub one_before : (wires : List Wire) (wire : Wire) (others : Option (List Wire))
    → option_map (λ last. wires ++ last) (others >>= λ last. Some (wire ∷ last)) ≡ option_map (λ last. (wires ++ wire ∷ []) ++ last) others
one_before wires wire None = refl
one_before wires wire (Some last) = ap Some (sym (append_assoc wires (wire ∷ []) last))

-- several wires before the others
pub many_before : (wires first : List Wire) (others : Option (List Wire))
    → option_map (λ last. wires ++ last) (others >>= λ last. Some (first ++ last)) ≡ option_map (λ last. (wires ++ first) ++ last) others
many_before wires first None = refl
many_before wires first (Some last) = ap Some (sym (append_assoc wires first last))

one_fewer : (n k : ℕ) → k < n → n - k ≡ suc (n - (k + 1))
one_fewer n k less = omega arith

none_left : (n k : ℕ) → n ≤ k → n - k ≡ zero
none_left n k past = omega arith

-- the next point of a row, and the first one of the next row
abbrev beside : PointModel → ℤ → PointModel
beside at step = record { x = at.x +ℤ step; y = at.y }

abbrev above : PointModel → ℤ → PointModel
above at step = record { x = at.x; y = at.y +ℤ step }

module _ (via : ℕ) (step : ℤ) (n k : ℕ) (at : PointModel) (wires : List Wire) where
  -- one more via of a row
  pub row_on : k < n → is_within at.x ≡ true → behind wires (row_vias via step (n - k) at) ≡ behind (wires ++ ViaAt via at ∷ [])
      (row_vias via step (n - (k + 1)) (beside at step))
  unfolding row_vias
  row_on less within = rw (one_fewer n k less, within) (one_before wires (ViaAt via at) (row_vias via step (n - (k + 1)) (beside at step)))

  -- a point beyond the limit
  pub row_fails : k < n → is_within at.x ≡ false → behind wires (row_vias via step (n - k) at) ≡ None
  unfolding row_vias
  row_fails less beyond = rw (one_fewer n k less, beyond) refl

  -- the row's end
  pub row_ends : n ≤ k → behind wires (row_vias via step (n - k) at) ≡ Some wires
  unfolding row_vias
  row_ends past = rw (none_left n k past) (ap Some (append-nil wires))

module _ (via : ℕ) (array : ViaArray) (n k : ℕ) (at : PointModel) (wires : List Wire) where
  -- one more row
  pub rows_on : (more : List Wire) → k < n → is_within at.y ≡ true → behind wires (row_vias via array.x_step array.columns at) ≡ Some more
      → behind wires (rows_vias via array (n - k) at) ≡ behind more (rows_vias via array (n - (k + 1)) (above at array.y_step))
  unfolding rows_vias
  rows_on more less within said = by (row_vias via array.x_step array.columns at) refl where
    by : (row : Option (List Wire)) → row_vias via array.x_step array.columns at ≡ row
        → behind wires (rows_vias via array (n - k) at) ≡ behind more (rows_vias via array (n - (k + 1)) (above at array.y_step))
    by None is = absurd (let e : ⊥ = cc (rw is at said) in e)
    by (Some row) is =
        let all : wires ++ row ≡ more = cc (rw is at said) in
        rw (one_fewer n k less, within, is)
        (many_before wires row (rows_vias via array (n - (k + 1)) (above at array.y_step))
        ∙ ap (λ w. behind w (rows_vias via array (n - (k + 1)) (above at array.y_step))) all)

  -- a row beyond the limit
  pub rows_fail : k < n → is_within at.y ≡ false → behind wires (rows_vias via array (n - k) at) ≡ None
  unfolding rows_vias
  rows_fail less beyond = rw (one_fewer n k less, beyond) refl

  -- a row with a point beyond the limit
  pub rows_fail_in_row : k < n → is_within at.y ≡ true → behind wires (row_vias via array.x_step array.columns at) ≡ None
      → behind wires (rows_vias via array (n - k) at) ≡ None
  unfolding rows_vias
  rows_fail_in_row less within none = by (row_vias via array.x_step array.columns at) refl where
    by : (row : Option (List Wire)) → row_vias via array.x_step array.columns at ≡ row → behind wires (rows_vias via array (n - k) at) ≡ None
    by None is = rw (one_fewer n k less, within, is) refl
    by (Some row) is = absurd (let e : ⊥ = cc (rw is at none) in e)

  -- the array's end
  pub rows_end : n ≤ k → behind wires (rows_vias via array (n - k) at) ≡ Some wires
  unfolding rows_vias
  rows_end past = rw (none_left n k past) (ap Some (append-nil wires))
