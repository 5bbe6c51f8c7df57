-- A line between two different points, side by side or one above the other, is a rectangle, where its width is even.
use Rattle.std.proofs.Common.{◌≡◌, ◌≢◌, ◌⊎◌, inl, inr, ℤ, ◌+ℤ◌, ◌-ℤ◌, ◌≤ℤ◌, ◌<ℤ◌, arith}
use Rattle.std.proofs.lemmas.Int.{ints}
use Rattle.leg_lemmas.proofs.Integers.{cases_lt_z}
use Rattle.leg_geom.specs.Plane.{PointModel, RectModel}
use Rattle.leg_geom.proofs.Points.{same_point}
use Rattle.leg_lib_records.specs.Scale.{IsEven}
use Rattle.leg_rules.specs.Metal.Outline.{IsAlong, IsAcross}
use Rattle.leg_route_laws.specs.CleanWire.{IsRectOf}
use Rattle.leg_route_laws.specs.Lines.{line_outline}

-- the numbers of an interval are those along a line, or across one
record RunsAlong (reach a b low high : ℤ) : Type 0 where
  pub there : (z : ℤ) → low ≤ℤ z → z ≤ℤ high → IsAlong a b reach reach z
  pub back : (z : ℤ) → IsAlong a b reach reach z → (low ≤ℤ z) × (z ≤ℤ high)

record HasEnds (reach a b : ℤ) : Type 0 where
  pub low : ℤ
  pub high : ℤ
  pub along : RunsAlong reach a b low high

ends_up : (reach a b : ℤ) → a <ℤ b → HasEnds reach a b
ends_up reach a b less = record {
  low = a -ℤ reach;
  high = b +ℤ reach;
  along = record {
    there = λ z above below. record { from = grind (arith, ints); to = grind (arith, ints) };
    back = λ z along. let from = along.from in let to = along.to in (grind (arith, ints), grind (arith, ints));
  };
}

ends_down : (reach a b : ℤ) → b <ℤ a → HasEnds reach a b
ends_down reach a b less = record {
  low = b -ℤ reach;
  high = a +ℤ reach;
  along = record {
    there = λ z above below. record { from = grind (arith, ints); to = grind (arith, ints) };
    back = λ z along. let from = along.from in let to = along.to in (grind (arith, ints), grind (arith, ints));
  };
}

ends : (reach a b : ℤ) → a ≢ b → HasEnds reach a b
ends reach a b differ = by (cases_lt_z a b) (cases_lt_z b a) where
  by : (a <ℤ b) ⊎ (b ≤ℤ a) → (b <ℤ a) ⊎ (a ≤ℤ b) → HasEnds reach a b
  by (inl less) other = ends_up reach a b less
  by (inr more) (inl less) = ends_down reach a b less
  by (inr more) (inr same) = absurd (differ (grind (arith, ints)))

across_there : (middle width half z : ℤ) → width ≡ half +ℤ half → (middle -ℤ half) ≤ℤ z → z ≤ℤ (middle +ℤ half) → IsAcross middle width z
across_there middle width half z even above below = grind (arith, ints)

across_back : (middle width half z : ℤ) → width ≡ half +ℤ half → IsAcross middle width z → ((middle -ℤ half) ≤ℤ z) × (z ≤ℤ (middle +ℤ half))
across_back middle width half z even across = (grind (arith, ints), grind (arith, ints))

module _ (width reach : ℤ) (even : IsEven width) (a b : PointModel) (differ : a ≢ b) where
  level_rect : a.y ≡ b.y → (rect : RectModel) × IsRectOf (line_outline width reach a b) rect
  level_rect level =
      let half = even.0 in
      let x = ends reach a.x b.x (λ same. differ (same_point a b same level)) in (
        record { x1 = x.low; y1 = a.y -ℤ half; x2 = x.high; y2 = a.y +ℤ half },
        λ p. (
          λ inside. inl (record {
            level = level;
            along = x.along.there p.x inside.left inside.right;
            across = across_there a.y width half p.y even.1 inside.bottom inside.top;
          }),
          λ has. elim has [
            | inl flat ↦
                let along = x.along.back p.x flat.along in
                let across = across_back a.y width half p.y even.1 flat.across in
                record { left = along.0; right = along.1; bottom = across.0; top = across.1 }
            | inr tall ↦ absurd (differ (same_point a b tall.upright level))
          ],
        ),
      )

  upright_rect : a.x ≡ b.x → (rect : RectModel) × IsRectOf (line_outline width reach a b) rect
  upright_rect upright =
      let half = even.0 in
      let y = ends reach a.y b.y (λ same. differ (same_point a b upright same)) in (
        record { x1 = a.x -ℤ half; y1 = y.low; x2 = a.x +ℤ half; y2 = y.high },
        λ p. (
          λ inside. inr (record {
            upright = upright;
            along = y.along.there p.y inside.bottom inside.top;
            across = across_there a.x width half p.x even.1 inside.left inside.right;
          }),
          λ has. elim has [
            | inl flat ↦ absurd (differ (same_point a b upright flat.level))
            | inr tall ↦
                let along = y.along.back p.y tall.along in
                let across = across_back a.x width half p.x even.1 tall.across in
                record { left = across.0; right = across.1; bottom = along.0; top = along.1 }
          ],
        ),
      )

  pub line_rect : (a.y ≡ b.y) ⊎ (a.x ≡ b.x) → (rect : RectModel) × IsRectOf (line_outline width reach a b) rect
  line_rect (inl level) = level_rect level
  line_rect (inr upright) = upright_rect upright
