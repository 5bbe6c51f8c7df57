-- The image of a rectangle under an orientation and a move, by the images of two opposite corners.
use Rattle.std.proofs.Common.{◌≡◌, ◌↔◌, ℤ, ◌+ℤ◌, ◌-ℤ◌, ap, refl, arith}
use Rattle.std.proofs.lemmas.Int.{ints}
use Rattle.leg_geom.specs.declared.orient.Orient.{Orient}
use Rattle.leg_geom.specs.declared.orient.Orient.TheVariants.{N, S, W, E, FN, FS, FW, FE}
use Rattle.leg_geom.specs.Plane.{PointModel, RectModel, IsRect}
use Rattle.leg_geom.specs.Line.{Interval, between}
use Rattle.leg_geom.specs.Steps.Intervals.{IsSpan, HasNumber}
use Rattle.leg_geom.specs.Orientation.{turned, placed, IsImage, opposite, placed_rect}
use Rattle.leg_geom.proofs.Axes.{x_ends, y_ends, IsSpan-x_ends, IsSpan-y_ends}
use Rattle.leg_geom.proofs.Points.{spot, same_spot, same_sides}

-- the map takes some number of the interval to this one
record FromNumber (map : ℤ → ℤ) (s : Interval) (z : ℤ) : Type 0 where
  pub from : ℤ
  pub in_s : HasNumber s from
  pub is : map from ≡ z

-- the numbers of the second interval are exactly those to which the map takes a number of the first
abbrev Carries : (ℤ → ℤ) → Interval → Interval → Type 0
Carries map s t = (z : ℤ) → HasNumber t z ↔ FromNumber map s z

Carries-moved : (by : ℤ) (s : Interval) → IsSpan s → Carries (λ z. by +ℤ z) s (between (by +ℤ s.low) (by +ℤ s.high))
Carries-moved by s p z = (
  λ m.
      let above = m.above in
      let below = m.below in
      record { from = z -ℤ by; in_s = record { above = grind (arith, ints); below = grind (arith, ints) }; is = omega (arith, ints) },
  λ c.
      let above = c.in_s.above in
      let below = c.in_s.below in
      let is = c.is in
      record { above = grind (arith, ints); below = grind (arith, ints) },
)

Carries-mirrored : (by size : ℤ) (s : Interval) → IsSpan s → Carries (λ z. by +ℤ (size -ℤ z)) s (between (by +ℤ (size -ℤ s.low)) (by +ℤ (size -ℤ s.high)))
Carries-mirrored by size s p z = (
  λ m.
      let above = m.above in
      let below = m.below in
      record { from = by +ℤ (size -ℤ z); in_s = record { above = grind (arith, ints); below = grind (arith, ints) }; is = omega (arith, ints) },
  λ c.
      let above = c.in_s.above in
      let below = c.in_s.below in
      let is = c.is in
      record { above = grind (arith, ints); below = grind (arith, ints) },
)

-- a map that takes x to x and y to y
IsImage-straight : (f g : ℤ → ℤ) (r q : RectModel) → Carries f (x_ends r) (x_ends q) → Carries g (y_ends r) (y_ends q) → IsImage (λ p. spot (f p.x) (g p.y)) r q
IsImage-straight f g r q cx cy p = (
  λ m.
      let x = (cx p.x).0 (record { above = m.left; below = m.right }) in
      let y = (cy p.y).0 (record { above = m.bottom; below = m.top }) in
      record {
        from = spot x.from y.from;
        in_r = record { left = x.in_s.above; right = x.in_s.below; bottom = y.in_s.above; top = y.in_s.below };
        is = same_spot _ _ _ _ x.is y.is;
      },
  λ c.
      let x = (cx p.x).1 (record { from = c.from.x; in_s = record { above = c.in_r.left; below = c.in_r.right }; is = ap (λ (s : PointModel). s.x) c.is }) in
      let y = (cy p.y).1 (record { from = c.from.y; in_s = record { above = c.in_r.bottom; below = c.in_r.top }; is = ap (λ (s : PointModel). s.y) c.is }) in
      record { left = x.above; right = x.below; bottom = y.above; top = y.below },
)

-- a map that takes y to x and x to y
IsImage-crossed : (f g : ℤ → ℤ) (r q : RectModel) → Carries f (y_ends r) (x_ends q) → Carries g (x_ends r) (y_ends q) → IsImage (λ p. spot (f p.y) (g p.x)) r q
IsImage-crossed f g r q cx cy p = (
  λ m.
      let x = (cx p.x).0 (record { above = m.left; below = m.right }) in
      let y = (cy p.y).0 (record { above = m.bottom; below = m.top }) in
      record {
        from = spot y.from x.from;
        in_r = record { left = y.in_s.above; right = y.in_s.below; bottom = x.in_s.above; top = x.in_s.below };
        is = same_spot _ _ _ _ x.is y.is;
      },
  λ c.
      let x = (cx p.x).1 (record { from = c.from.y; in_s = record { above = c.in_r.bottom; below = c.in_r.top }; is = ap (λ (s : PointModel). s.x) c.is }) in
      let y = (cy p.y).1 (record { from = c.from.x; in_s = record { above = c.in_r.left; below = c.in_r.right }; is = ap (λ (s : PointModel). s.y) c.is }) in
      record { left = x.above; right = x.below; bottom = y.above; top = y.below },
)

-- the coordinates of a point are those of its image, or are taken from a side of the box there
same_coordinates : (o : Orient) (w h : ℤ) (p q : PointModel) → (turned o w h p).x ≡ (turned o w h q).x → (turned o w h p).y ≡ (turned o w h q).y → p ≡ q
same_coordinates N w h p q x y = same_spot _ _ _ _ (omega (arith, ints)) (omega (arith, ints))
same_coordinates S w h p q x y = same_spot _ _ _ _ (omega (arith, ints)) (omega (arith, ints))
same_coordinates W w h p q x y = same_spot _ _ _ _ (omega (arith, ints)) (omega (arith, ints))
same_coordinates E w h p q x y = same_spot _ _ _ _ (omega (arith, ints)) (omega (arith, ints))
same_coordinates FN w h p q x y = same_spot _ _ _ _ (omega (arith, ints)) (omega (arith, ints))
same_coordinates FS w h p q x y = same_spot _ _ _ _ (omega (arith, ints)) (omega (arith, ints))
same_coordinates FW w h p q x y = same_spot _ _ _ _ (omega (arith, ints)) (omega (arith, ints))
same_coordinates FE w h p q x y = same_spot _ _ _ _ (omega (arith, ints)) (omega (arith, ints))

pub same_image : (o : Orient) (w h : ℤ) (p q : PointModel) → turned o w h p ≡ turned o w h q → p ≡ q
same_image o w h p q e =
    let x = ap (λ (s : PointModel). s.x) e in
    let y = ap (λ (s : PointModel). s.y) e in
    same_coordinates o w h p q x y

-- the rectangle between the images of two opposite corners is the image
pub IsImage-placed_rect : (at : PointModel) (o : Orient) (w h : ℤ) (r : RectModel) → IsRect r → IsImage (placed at o w h) r (placed_rect at o w h r)
IsImage-placed_rect at N w h r p = IsImage-straight _ _ _ _ (Carries-moved at.x _ (IsSpan-x_ends r p)) (Carries-moved at.y _ (IsSpan-y_ends r p))
IsImage-placed_rect at S w h r p = IsImage-straight _ _ _ _ (Carries-mirrored at.x w _ (IsSpan-x_ends r p)) (Carries-mirrored at.y h _ (IsSpan-y_ends r p))
IsImage-placed_rect at W w h r p = IsImage-crossed _ _ _ _ (Carries-mirrored at.x h _ (IsSpan-y_ends r p)) (Carries-moved at.y _ (IsSpan-x_ends r p))
IsImage-placed_rect at E w h r p = IsImage-crossed _ _ _ _ (Carries-moved at.x _ (IsSpan-y_ends r p)) (Carries-mirrored at.y w _ (IsSpan-x_ends r p))
IsImage-placed_rect at FN w h r p = IsImage-straight _ _ _ _ (Carries-mirrored at.x w _ (IsSpan-x_ends r p)) (Carries-moved at.y _ (IsSpan-y_ends r p))
IsImage-placed_rect at FS w h r p = IsImage-straight _ _ _ _ (Carries-moved at.x _ (IsSpan-x_ends r p)) (Carries-mirrored at.y h _ (IsSpan-y_ends r p))
IsImage-placed_rect at FW w h r p = IsImage-crossed _ _ _ _ (Carries-moved at.x _ (IsSpan-y_ends r p)) (Carries-moved at.y _ (IsSpan-x_ends r p))
IsImage-placed_rect at FE w h r p = IsImage-crossed _ _ _ _ (Carries-mirrored at.x h _ (IsSpan-y_ends r p)) (Carries-mirrored at.y w _ (IsSpan-x_ends r p))

-- the same rectangle, from corners and images that are named
pub placed_rect-corners : (o : Orient) (at : PointModel) (w h : ℤ) (r s : RectModel) (low high p q : PointModel) → low ≡ spot r.x1 r.y1
    → high ≡ spot r.x2 r.y2 → p ≡ placed at o w h low → q ≡ placed at o w h high → x_ends s ≡ between p.x q.x → y_ends s ≡ between p.y q.y
    → s ≡ placed_rect at o w h r
placed_rect-corners o at w h r s low high p q el eh ep eq ex ey =
    let e : s ≡ opposite p q =
    same_sides _ _ _ _ _ _ _ _ (ap (λ (e : Interval). e.low) ex) (ap (λ (e : Interval). e.low) ey) (ap (λ (e : Interval). e.high) ex)
    (ap (λ (e : Interval). e.high) ey) in
    rw (e, ep, eq, el, eh) refl
