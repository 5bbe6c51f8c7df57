-- Segments of steps, as rectangles.
use Rattle.std.proofs.Common.{◌≡◌, ℕ, ◌↔◌, inl, inr, ℤ, pos, negsuc, ◌+ℤ◌, ◌-ℤ◌, ◌≤ℤ◌, sym, ap, ◌∙◌, arith}
use Rattle.std.proofs.lemmas.Int.{ints}
use Rattle.leg_lex.specs.Number.{IsNumber}
use Rattle.leg_geom.specs.Plane.{PointModel, RectModel, HasPoint}
use Rattle.leg_geom.specs.Steps.Intervals.{IsSpan}
use Rattle.leg_lib_records.specs.Sound.{IsWidth}
use Rattle.leg_rules.specs.Metal.Outline.{HasPointOf}
use Rattle.leg_rules.specs.Metal.Outline.Outline.{Line}
use Rattle.leg_flat.proofs.OutlineLines.{ends, sides_of, RunsAcross, along_up, along_down, horizontal_points, vertical_points}
use Rattle.leg_rules.specs.Route.StepWires.{half}
use Rattle.leg_route_access.specs.Steps.Stretches.{IsStretch}
use Rattle.leg_route_access.proofs.Squares.{half_is}

abbrev pub strip_of : PointModel → PointModel → ℤ → RectModel
strip_of low high width = record { x1 = low.x -ℤ half width; y1 = low.y -ℤ half width; x2 = high.x +ℤ half width; y2 = high.y +ℤ half width }

pub twice_half : (width : ℤ) → IsWidth width → width ≡ half width +ℤ half width
twice_half (pos a) is = let even = is.even in halved a even.0 even.1 where
  halved : (a : ℕ) (h : ℤ) → pos a ≡ h +ℤ h → pos a ≡ half (pos a) +ℤ half (pos a)
  halved a h e = omega (arith, ints)
twice_half (negsuc a) is = absurd (let above = is.above in let e : ⊥ = omega (arith, ints) in e)

across_line : (line width h low high : ℤ) → width ≡ h +ℤ h → low ≡ line -ℤ h → high ≡ line +ℤ h → RunsAcross line width (ends low high)
across_line line width h low high twice l r z = (
  λ m.
      let above = m.above in
      let below = m.below in
      grind (arith, ints),
  λ a. record { above = grind (arith, ints); below = grind (arith, ints) },
)

-- a stretch with half a width past its ends stays within the numbers of the machine
pub span_of : (low high width l h : ℤ) → IsWidth width → IsNumber low → IsNumber high → low ≤ℤ high → l ≡ low -ℤ half width → h ≡ high +ℤ half width
    → IsSpan (ends l h)
span_of low high width l h wide from to order is_l is_h =
    let some = (half_is width wide).some in
    let within = (half_is width wide).within in
    record { low = omega (arith, ints); high = omega (arith, ints); long = omega (arith, ints) }

pub same_strip : (low high : PointModel) (width x1 y1 x2 y2 : ℤ) → x1 ≡ low.x -ℤ half width → y1 ≡ low.y -ℤ half width → x2 ≡ high.x +ℤ half width
    → y2 ≡ high.y +ℤ half width
    → sides_of (ends x1 x2) (ends y1 y2) ≡ strip_of low high width
same_strip low high width x1 y1 x2 y2 a b c d = λ i. record { x1 = a i; y1 = b i; x2 = c i; y2 = d i }

module _ (low high : PointModel) (width : ℤ) (wide : IsWidth width) where
  abbrev h : ℤ
  h = half width

  pub points_forth : (r : RectModel) → r ≡ strip_of low high width → IsStretch low high → (p : PointModel)
      → HasPoint r p ↔ HasPointOf (Line low high width h h) p
  points_forth r is (inl east) =
      let level = east.level in
      let less = east.less in
      let top : r.y2 ≡ low.y +ℤ h = ap (λ (s : RectModel). s.y2) is ∙ ap (λ (y : ℤ). y +ℤ h) (sym level) in
      horizontal_points low high width h h r (λ same. let e : low.x ≡ high.x = ap (λ (p : PointModel). p.x) same in omega (arith, ints)) level
      (along_up low.x high.x h h r.x1 r.x2 less (ap (λ (s : RectModel). s.x1) is) (ap (λ (s : RectModel). s.x2) is))
      (across_line low.y width h r.y1 r.y2 (twice_half width wide) (ap (λ (s : RectModel). s.y1) is) top)
  points_forth r is (inr north) =
      let upright = north.upright in
      let less = north.less in
      let right : r.x2 ≡ low.x +ℤ h = ap (λ (s : RectModel). s.x2) is ∙ ap (λ (x : ℤ). x +ℤ h) (sym upright) in
      vertical_points low high width h h r upright (λ same. omega (arith, ints))
      (across_line low.x width h r.x1 r.x2 (twice_half width wide) (ap (λ (s : RectModel). s.x1) is) right)
      (along_up low.y high.y h h r.y1 r.y2 less (ap (λ (s : RectModel). s.y1) is) (ap (λ (s : RectModel). s.y2) is))

  pub points_back : (r : RectModel) → r ≡ strip_of low high width → IsStretch low high → (p : PointModel)
      → HasPoint r p ↔ HasPointOf (Line high low width h h) p
  points_back r is (inl east) =
      let level = east.level in
      let less = east.less in
      let bottom : r.y1 ≡ high.y -ℤ h = ap (λ (s : RectModel). s.y1) is ∙ ap (λ (y : ℤ). y -ℤ h) level in
      horizontal_points high low width h h r (λ same. let e : high.x ≡ low.x = ap (λ (p : PointModel). p.x) same in omega (arith, ints)) (sym level)
      (along_down high.x low.x h h r.x1 r.x2 less (ap (λ (s : RectModel). s.x1) is) (ap (λ (s : RectModel). s.x2) is))
      (across_line high.y width h r.y1 r.y2 (twice_half width wide) bottom (ap (λ (s : RectModel). s.y2) is))
  points_back r is (inr north) =
      let upright = north.upright in
      let less = north.less in
      let left : r.x1 ≡ high.x -ℤ h = ap (λ (s : RectModel). s.x1) is ∙ ap (λ (x : ℤ). x -ℤ h) upright in
      vertical_points high low width h h r (sym upright) (λ same. omega (arith, ints))
      (across_line high.x width h r.x1 r.x2 (twice_half width wide) left (ap (λ (s : RectModel). s.x2) is))
      (along_down high.y low.y h h r.y1 r.y2 less (ap (λ (s : RectModel). s.y1) is) (ap (λ (s : RectModel). s.y2) is))
