-- The copies of a figure, one after the other.
use Rattle.std.proofs.Common.{◌≡◌, ℕ, zero, suc, ℤ, ◌+ℤ◌, ◌<ℤ◌, ◌+◌, ◌-◌, ◌<◌, ◌≤◌, Bool, true, false, nat_le, unsigned_abs, List, None, Some, refl, sym, arith}
use Rattle.std.proofs.lemmas.Int.{ints}
use Rattle.leg_lex.specs.declared.limits.TheConstants.{MILLIONTHS_LIMIT}
use Rattle.leg_lex.specs.Until.{over}
use Rattle.leg_geom.specs.Plane.{PointModel}
use Rattle.leg_lib_records.specs.declared.raw.RawShape.{RawShape}
use Rattle.leg_grammar.specs.Lef.Copies.{StepPattern, length_within, with_moved, with_row, with_rows}

pub within_is : (z w : ℤ) → length_within z ≡ Some w → w ≡ z
unfolding length_within
within_is z w said = by (nat_le (unsigned_abs z) MILLIONTHS_LIMIT) refl where
  by : (test : Bool) → nat_le (unsigned_abs z) MILLIONTHS_LIMIT ≡ test → w ≡ z
  by true is = let same : z ≡ w = cc (rw is at said) in sym same
  by false is = absurd (let e : ⊥ = cc (rw is at said) in e)

-- Two sides that are moved the same way stay in their order.
pub moved_less : (a b way x1 x2 : ℤ) → a <ℤ b → length_within (a +ℤ way) ≡ Some x1 → length_within (b +ℤ way) ≡ Some x2 → x1 <ℤ x2
moved_less a b way x1 x2 less first second =
    let one : x1 ≡ (a +ℤ way) = within_is (a +ℤ way) x1 first in
    let other : x2 ≡ (b +ℤ way) = within_is (b +ℤ way) x2 second in
    omega (arith, ints, one, other, less)

one_fewer : (n k : ℕ) → k < n → n - k ≡ suc (n - (k + 1))
one_fewer n k less = omega arith

none_left : (n k : ℕ) → n ≤ k → n - k ≡ zero
none_left n k past = omega arith

-- a way of this length along x, or along y
abbrev along_x : PointModel → ℤ → PointModel
along_x way x = record { x = x; y = way.y }

abbrev along_y : PointModel → ℤ → PointModel
along_y way y = record { x = way.x; y = y }

module _ (figure : List RawShape) (step : ℤ) (n k : ℕ) (way : PointModel) (shapes : List RawShape) where
  -- one more copy of a row
  pub row_on : (x : ℤ) (copied : List RawShape) → k < n → length_within way.x ≡ Some x
      → over (with_moved (along_x way x)) shapes figure ≡ Some copied
      → with_row figure step (n - k) way shapes ≡ with_row figure step (n - (k + 1)) (along_x way (x +ℤ step)) copied
  unfolding with_row
  row_on x copied less within said = rw (one_fewer n k less, within, said) refl

  -- a copy beyond the limit
  pub row_fails : k < n → length_within way.x ≡ None → with_row figure step (n - k) way shapes ≡ None
  unfolding with_row
  row_fails less beyond = rw (one_fewer n k less, beyond) refl

  -- a copy with a shape beyond the limit
  pub row_fails_in_copy : (x : ℤ) → k < n → length_within way.x ≡ Some x → over (with_moved (along_x way x)) shapes figure ≡ None
      → with_row figure step (n - k) way shapes ≡ None
  unfolding with_row
  row_fails_in_copy x less within none = rw (one_fewer n k less, within, none) refl

  -- the row's end
  pub row_ends : n ≤ k → with_row figure step (n - k) way shapes ≡ Some shapes
  unfolding with_row
  row_ends past = rw (none_left n k past) refl

module _ (figure : List RawShape) (pattern : StepPattern) (n k : ℕ) (way : PointModel) (shapes : List RawShape) where
  -- one more row
  pub rows_on : (y : ℤ) (copied : List RawShape) → k < n → length_within way.y ≡ Some y
      → with_row figure pattern.x_step pattern.columns (along_y way y) shapes ≡ Some copied
      → with_rows figure pattern (n - k) way shapes ≡ with_rows figure pattern (n - (k + 1)) (along_y way (y +ℤ pattern.y_step)) copied
  unfolding with_rows
  rows_on y copied less within said = rw (one_fewer n k less, within, said) refl

  -- a row beyond the limit
  pub rows_fail : k < n → length_within way.y ≡ None → with_rows figure pattern (n - k) way shapes ≡ None
  unfolding with_rows
  rows_fail less beyond = rw (one_fewer n k less, beyond) refl

  -- a row with a shape beyond the limit
  pub rows_fail_in_row : (y : ℤ) → k < n → length_within way.y ≡ Some y
      → with_row figure pattern.x_step pattern.columns (along_y way y) shapes ≡ None
      → with_rows figure pattern (n - k) way shapes ≡ None
  unfolding with_rows
  rows_fail_in_row y less within none = rw (one_fewer n k less, within, none) refl

  -- the last row's end
  pub rows_end : n ≤ k → with_rows figure pattern (n - k) way shapes ≡ Some shapes
  unfolding with_rows
  rows_end past = rw (none_left n k past) refl
