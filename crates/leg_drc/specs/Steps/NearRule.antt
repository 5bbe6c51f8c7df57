-- The reach of a layer. The rules of the search need these laws.
use Rattle.std.proofs.Common.{◌≡◌, ℕ, zero, suc, ◌*◌, ◌<◌, ◌≤◌, min, List, [], ◌∷◌, length, get_or, refl, arith}
use Rattle.leg_geom.specs.Plane.{RectModel}
use Rattle.leg_geom.specs.Gap.{apart, x_gap, y_gap}
use Rattle.leg_geom.proofs.Gaps.{x_gap-least, y_gap-least, less_from_squares}
use Rattle.leg_rules.specs.Spacing.Violations.{AreNearer}
use Rattle.leg_drc.specs.Steps.Reach.{greatest_by}

abbrev pub greatest : List ℕ → ℕ
greatest = greatest_by (λ n. n)

-- the gaps of the rectangles are within this
abbrev pub AreGapsWithin : ℕ → RectModel → RectModel → Type 0
AreGapsWithin reach a b = (x_gap a b ≤ reach) × (y_gap a b ≤ reach)

-- rectangles that are nearer than a distance have both gaps within it, and within what is no less
pub nearer_gaps : (distance reach : ℕ) (a b : RectModel) → distance ≤ reach → AreNearer distance a b → AreGapsWithin reach a b
nearer_gaps distance reach a b within n =
    let x = apart n.p.x n.q.x in
    let y = apart n.p.y n.q.y in
    let x_less : x < distance = less_from_squares x distance (y * y) n.near in
    let y_less : y < distance = less_from_squares y distance (x * x) (omega (arith, n.near)) in (
      omega (arith, within, x_less, x_gap-least a b n.p n.q n.in_a n.in_b),
      omega (arith, within, y_less, y_gap-least a b n.p n.q n.in_a n.in_b),
    )

-- nothing is nearer than 0
pub nearer_above : (distance : ℕ) (a b : RectModel) → AreNearer distance a b → 0 < distance
nearer_above zero a b n = absurd (omega (arith, n.near))
nearer_above (suc distance) a b n = omega arith

-- the layers above the highest one count as one, which has no reach
pub reach_at : (reaches : List ℕ) (layer : ℕ) → get_or reaches (min layer (length reaches)) 0 ≡ get_or reaches layer 0
reach_at [] layer = refl
reach_at (r ∷ reaches) zero = let first : min 0 (suc (length reaches)) ≡ 0 = omega arith in rw first refl
reach_at (r ∷ reaches) (suc layer) =
    let next : min (suc layer) (suc (length reaches)) ≡ suc (min layer (length reaches)) = omega arith in
    rw next (reach_at reaches layer)

-- no reach is above the greatest
pub reach_within : (reaches : List ℕ) (layer : ℕ) → get_or reaches layer 0 ≤ greatest reaches
reach_within [] layer = omega arith
reach_within (r ∷ reaches) zero = omega arith
reach_within (r ∷ reaches) (suc layer) = omega (arith, reach_within reaches layer)
