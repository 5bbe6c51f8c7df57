-- The points of a line over several points are those of the lines between them.
use Rattle.std.proofs.Common.{◌≡◌, ◌≢◌, ◌⊎◌, inl, inr, ℤ, pos, ◌+ℤ◌, ◌-ℤ◌, ◌≤ℤ◌, ◌<ℤ◌, List, [], ◌∷◌, refl, subst, ◌∙◌, arith}
use Rattle.std.proofs.lemmas.Int.{ints}
use Rattle.leg_lemmas.proofs.Integers.{cases_lt_z}
use Rattle.leg_geom.specs.Plane.{PointModel}
use Rattle.leg_geom.proofs.Points.{same_point}
use Rattle.leg_rules.specs.Metal.Outline.{beyond, IsAlong, IsAcross, HasPointOf}
use Rattle.leg_route_laws.specs.Lines.{EachStep, last_spot, AreInLine, line_outline}

-- the number lies between two others, or at most this far beyond them
data IsNear (reach a b z : ℤ) : Type 0 where
  up : (a -ℤ reach) ≤ℤ z → z ≤ℤ (b +ℤ reach) → IsNear reach a b z
  down : (b -ℤ reach) ≤ℤ z → z ≤ℤ (a +ℤ reach) → IsNear reach a b z

near_from_along : (reach a b z : ℤ) → a ≢ b → IsAlong a b reach reach z → IsNear reach a b z
near_from_along reach a b z differ along = by (cases_lt_z a b) where
  from : beyond a b z ≤ℤ reach
  from = along.from

  to : beyond b a z ≤ℤ reach
  to = along.to

  by : (a <ℤ b) ⊎ (b ≤ℤ a) → IsNear reach a b z
  by (inl less) = up (grind (arith, ints, from, to)) (grind (arith, ints, from, to))
  by (inr more) = by_other (cases_lt_z b a) where
    by_other : (b <ℤ a) ⊎ (a ≤ℤ b) → IsNear reach a b z
    by_other (inl less) = down (grind (arith, ints, from, to)) (grind (arith, ints, from, to))
    by_other (inr same) = absurd (differ (grind (arith, ints)))

along_from_near : (reach a b z : ℤ) → pos 0 ≤ℤ reach → IsNear reach a b z → IsAlong a b reach reach z
along_from_near reach a b z some (up low high) = by (cases_lt_z a b) where
  by : (a <ℤ b) ⊎ (b ≤ℤ a) → IsAlong a b reach reach z
  by (inl less) = record { from = grind (arith, ints); to = grind (arith, ints) }
  by (inr more) = record { from = grind (arith, ints); to = grind (arith, ints) }
along_from_near reach a b z some (down low high) = by (cases_lt_z a b) where
  by : (a <ℤ b) ⊎ (b ≤ℤ a) → IsAlong a b reach reach z
  by (inl less) = record { from = grind (arith, ints); to = grind (arith, ints) }
  by (inr more) = record { from = grind (arith, ints); to = grind (arith, ints) }

-- what is near two numbers is near the first and any third one, or near this and the second
near_split : (reach a b c z : ℤ) → pos 0 ≤ℤ reach → IsNear reach a c z → IsNear reach a b z ⊎ IsNear reach b c z
near_split reach a b c z some (up low high) = by (cases_lt_z (b +ℤ reach) z) where
  by : ((b +ℤ reach) <ℤ z) ⊎ (z ≤ℤ (b +ℤ reach)) → IsNear reach a b z ⊎ IsNear reach b c z
  by (inl past) = inr (up (omega (arith, ints)) high)
  by (inr within) = inl (up low within)
near_split reach a b c z some (down low high) = by (cases_lt_z z (b -ℤ reach)) where
  by : (z <ℤ (b -ℤ reach)) ⊎ ((b -ℤ reach) ≤ℤ z) → IsNear reach a b z ⊎ IsNear reach b c z
  by (inl past) = inr (down low (omega (arith, ints)))
  by (inr within) = inl (down within high)

-- it holds from some point to the next
abbrev pub SomeStep : (PointModel → PointModel → Type 0) → PointModel → List PointModel → Type 0
SomeStep Step from [] = ⊥
SomeStep Step from (to ∷ spots) = Step from to ⊎ SomeStep Step to spots

abbrev IsLevel : PointModel → PointModel → Type 0
IsLevel a b = a.y ≡ b.y

abbrev IsUpright : PointModel → PointModel → Type 0
IsUpright a b = a.x ≡ b.x

last_level : (from : PointModel) (spots : List PointModel) → EachStep IsLevel from spots → from.y ≡ (last_spot from spots).y
last_level from [] each = refl
last_level from (to ∷ spots) each = each.0 ∙ last_level to spots each.1

last_upright : (from : PointModel) (spots : List PointModel) → EachStep IsUpright from spots → from.x ≡ (last_spot from spots).x
last_upright from [] each = refl
last_upright from (to ∷ spots) each = each.0 ∙ last_upright to spots each.1

module _ (width reach : ℤ) (some : pos 0 ≤ℤ reach) (p : PointModel) where
  abbrev HasIt : PointModel → PointModel → Type 0
  HasIt a b = HasPointOf (line_outline width reach a b) p

  level_steps : (from to : PointModel) (spots : List PointModel) → EachStep IsLevel from (to ∷ spots) → IsNear reach from.x (last_spot to spots).x p.x
      → IsAcross from.y width p.y → SomeStep HasIt from (to ∷ spots)
  level_steps from to [] each near across = inl (inl (record { level = each.0; along = along_from_near reach from.x to.x p.x some near; across = across }))
  level_steps from to (next ∷ spots) each near across =
      elim (near_split reach from.x to.x (last_spot next spots).x p.x some near) [
        | inl here ↦ inl (inl (record { level = each.0; along = along_from_near reach from.x to.x p.x some here; across = across }))
        | inr later ↦ inr (level_steps to next spots each.1 later (subst (λ y. IsAcross y width p.y) each.0 across))
      ]

  upright_steps : (from to : PointModel) (spots : List PointModel) → EachStep IsUpright from (to ∷ spots) → IsNear reach from.y (last_spot to spots).y p.y
      → IsAcross from.x width p.x → SomeStep HasIt from (to ∷ spots)
  upright_steps from to [] each near across = inl (inr (record { upright = each.0; along = along_from_near reach from.y to.y p.y some near; across = across }))
  upright_steps from to (next ∷ spots) each near across =
      elim (near_split reach from.y to.y (last_spot next spots).y p.y some near) [
        | inl here ↦ inl (inr (record { upright = each.0; along = along_from_near reach from.y to.y p.y some here; across = across }))
        | inr later ↦ inr (upright_steps to next spots each.1 later (subst (λ x. IsAcross x width p.x) each.0 across))
      ]

  -- a point of the whole line is one of a line from a point to the next
  pub some_step : (from : PointModel) (spots : List PointModel) → AreInLine from spots → from ≢ last_spot from spots → HasIt from (last_spot from spots)
      → SomeStep HasIt from spots
  some_step from [] in_line differ has = absurd (differ refl)
  some_step from (to ∷ spots) (inl level) differ has = by has where
    by : HasIt from (last_spot to spots) → SomeStep HasIt from (to ∷ spots)
    by (inl flat) =
        let apart : from.x ≢ (last_spot to spots).x = λ same. differ (same_point from (last_spot to spots) same flat.level) in
        level_steps from to spots level (near_from_along reach from.x (last_spot to spots).x p.x apart flat.along) flat.across
    by (inr tall) = absurd (differ (same_point from (last_spot to spots) tall.upright (last_level from (to ∷ spots) level)))
  some_step from (to ∷ spots) (inr upright) differ has = by has where
    by : HasIt from (last_spot to spots) → SomeStep HasIt from (to ∷ spots)
    by (inl flat) = absurd (differ (same_point from (last_spot to spots) (last_upright from (to ∷ spots) upright) flat.level))
    by (inr tall) =
        let apart : from.y ≢ (last_spot to spots).y = λ same. differ (same_point from (last_spot to spots) tall.upright same) in
        upright_steps from to spots upright (near_from_along reach from.y (last_spot to spots).y p.y apart tall.along) tall.across
