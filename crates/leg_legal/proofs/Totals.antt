-- The sum and the greatest of the first numbers of a list.
use Rattle.std.proofs.Common.{◌≡◌, ℕ, zero, suc, ◌+◌, ◌*◌, ◌<◌, ◌≤◌, ℤ, pos, ◌+ℤ◌, ◌≤ℤ◌, List, [], ◌∷◌, length, get_or, take, All, to_z, of_z, w64, SFits, refl, sym, ap, ◌∙◌, arith}
use Rattle.std.specs.Int.{int_max}
use Rattle.std.proofs.lemmas.Int.{ints, clamps, to_z-of_z}
use Rattle.leg_geom.specs.declared.limits.TheConstants.{COORDINATE_LIMIT}
use Rattle.leg_design_records.specs.declared.limits.TheConstants.{ENTRY_LIMIT}
use Rattle.leg_rules.specs.Legalise.Moves.{total_of, greatest_of}
use Rattle.leg_legal.specs.Steps.Distances.{IsMoveDistance}

max_in_turn : (a b c : ℤ) → int_max a (int_max b c) ≡ int_max (int_max a b) c
max_in_turn a b c = omega (arith, ints, clamps)

max_either : (a b : ℤ) → int_max a b ≡ int_max b a
max_either a b = omega (arith, ints, clamps)

-- one more number to the sum
pub total_more : (zs : List ℤ) (i : ℕ) (d : ℤ) → i < length zs → total_of (take (suc i) zs) ≡ total_of (take i zs) +ℤ get_or zs i d
total_more [] i d below = absurd (omega arith)
total_more (z ∷ zs) zero d below = omega (arith, ints)
total_more (z ∷ zs) (suc i) d below =
    let more : total_of (take (suc i) zs) ≡ total_of (take i zs) +ℤ get_or zs i d = total_more zs i d (omega arith) in
    omega (arith, ints, more)

-- and to the greatest
pub greatest_more : (zs : List ℤ) (i : ℕ) (d : ℤ) → i < length zs → greatest_of (take (suc i) zs) ≡ int_max (greatest_of (take i zs)) (get_or zs i d)
greatest_more [] i d below = absurd (omega arith)
greatest_more (z ∷ zs) zero d below = max_either z (pos 0)
greatest_more (z ∷ zs) (suc i) d below =
    ap (int_max z) (greatest_more zs i d (omega arith)) ∙ max_in_turn z (greatest_of (take i zs)) (get_or zs i d)

-- a distance fits the type
pub kept : (z : ℤ) → IsMoveDistance z → to_z w64 (of_z w64 z) ≡ z
kept z within = grind (arith, ints, to_z-of_z)

-- the next distance of the list to the sum of those before it
module _ (zs : List ℤ) (i : ℕ) (total : ℤ) (each : All IsMoveDistance zs) (few : length zs ≤ ENTRY_LIMIT) (below : i < length zs)
    (is : total ≡ total_of (take i zs)) (least : pos 0 ≤ℤ total) (most : total ≤ℤ pos (4 * COORDINATE_LIMIT * i)) where
  abbrev next : ℤ
  next = get_or zs i (pos 0)

  abbrev sum : ℤ
  sum = total +ℤ to_z w64 (of_z w64 next)

  within : IsMoveDistance next
  within = each i (pos 0) below

  sum_is : sum ≡ total +ℤ next
  sum_is = rw (kept next within) refl

  pub sum_fits : SFits w64 (total +ℤ to_z w64 (of_z w64 (get_or zs i (pos 0))))
  sum_fits = omega (arith, ints, sum_is, within.least, within.most)

  sum_kept : to_z w64 (of_z w64 sum) ≡ total +ℤ next
  sum_kept = to_z-of_z w64 sum sum_fits ∙ sum_is

  on : i + 1 ≡ suc i
  on = omega arith

  pub total_next : let kept_sum = to_z w64 (of_z w64 (total +ℤ to_z w64 (of_z w64 (get_or zs i (pos 0))))) in (kept_sum ≡ total_of (take (i + 1) zs))
      × (pos 0 ≤ℤ kept_sum) × (kept_sum ≤ℤ pos (4 * COORDINATE_LIMIT * (i + 1)))
  total_next = (
    sum_kept ∙ ap (λ z. z +ℤ next) is ∙ sym (total_more zs i (pos 0) below) ∙ ap (λ n. total_of (take n zs)) (sym on),
    omega (arith, ints, sum_kept, within.least),
    omega (arith, ints, sum_kept, within.most),
  )

-- the next number of the list and the greatest of those before it
pub greatest_next : (zs : List ℤ) (i : ℕ) → i < length zs → greatest_of (take (i + 1) zs) ≡ int_max (greatest_of (take i zs)) (get_or zs i (pos 0))
greatest_next zs i below = let on : i + 1 ≡ suc i = omega arith in ap (λ n. greatest_of (take n zs)) on ∙ greatest_more zs i (pos 0) below
