-- Metal that lies farther from a shape than the greatest spacing on its layer is clean beside it.
use Rattle.std.proofs.Common.{◌≡◌, ℕ, ◌+◌, ◌*◌, ◌<◌, ◌≤◌, ◌⊎◌, inl, inr, ℤ, pos, ◌+ℤ◌, ◌<ℤ◌, sym, ap, subst, arith}
use Rattle.std.proofs.lemmas.Int.{ints}
use Rattle.std.proofs.Math.Nat.{mul-le-mul}
use Rattle.leg_lemmas.proofs.Places.{the_only}
use Rattle.leg_geom.specs.Plane.{PointModel, RectModel, HasPoint}
use Rattle.leg_geom.specs.Gap.{apart, square_distance}
use Rattle.leg_lib_records.specs.Records.{LibraryModel}
use Rattle.leg_rules.specs.declared.shape.Shape.{Shape}
use Rattle.leg_wire_spacing.specs.Access.{alone}
use Rattle.leg_rules.specs.Spacing.RequiredSpacing.{greatest_spacing_on}
use Rattle.leg_rules.specs.Spacing.Closer.{AreCloserThan}
use Rattle.leg_rules.specs.Spacing.Clean.{net_metal, IsClean}
use Rattle.leg_route_access.specs.Steps.Reaches.{clear_at}

-- the numbers are farther apart than this
abbrev pub IsBeyond : ℕ → ℤ → ℤ → Type 0
IsBeyond distance a b = ((a +ℤ pos distance) <ℤ b) ⊎ ((b +ℤ pos distance) <ℤ a)

-- the points are farther apart than this, along x or y
abbrev pub AreBeyond : ℕ → PointModel → PointModel → Type 0
AreBeyond distance p q = IsBeyond distance p.x q.x ⊎ IsBeyond distance p.y q.y

beyond_apart : (clear distance : ℕ) → distance ≤ clear + 1 → (a b : ℤ) → IsBeyond clear a b → distance ≤ apart a b
beyond_apart clear distance short a b (inl below) = omega (arith, ints)
beyond_apart clear distance short a b (inr above) = omega (arith, ints)

square_long : (distance a b : ℕ) → distance ≤ a → distance * distance ≤ a * a + b * b
square_long distance a b long = let square : distance * distance ≤ a * a = mul-le-mul long long in omega (arith, square)

not_near : (clear distance : ℕ) → distance ≤ clear + 1 → (p q : PointModel) → AreBeyond clear p q → square_distance p q < distance * distance → ⊥
not_near clear distance short p q (inl x) near = let long =
    square_long distance (apart p.x q.x) (apart p.y q.y) (beyond_apart clear distance short p.x q.x x) in omega (arith, long, near)
not_near clear distance short p q (inr y) near = let long =
    square_long distance (apart p.y q.y) (apart p.x q.x) (beyond_apart clear distance short p.y q.y y) in omega (arith, long, near)

not_itself : (distance : ℕ) (p : PointModel) → AreBeyond distance p p → ⊥
not_itself distance p (inl (inl x)) = omega (arith, ints, x)
not_itself distance p (inl (inr x)) = omega (arith, ints, x)
not_itself distance p (inr (inl y)) = omega (arith, ints, y)
not_itself distance p (inr (inr y)) = omega (arith, ints, y)

module _ (library : LibraryModel) (shape : Shape) where
  abbrev clear : ℕ
  clear = clear_at library shape.layer

  abbrev IsFar : ℕ → RectModel → Type 0
  IsFar layer rect = layer ≡ shape.layer → (p q : PointModel) → HasPoint rect p → HasPoint shape.rect q → AreBeyond clear p q

  not_closer : (net layer : ℕ) (rect : RectModel) → IsFar layer rect → ¬ AreCloserThan (greatest_spacing_on library layer) (net_metal net layer rect) shape
  not_closer net layer rect far closer =
      let here = closer.comparable.layer in
      let same : greatest_spacing_on library layer ≡ greatest_spacing_on library shape.layer = ap (greatest_spacing_on library) here in
      elim closer.close [
        | inl shared ↦ not_itself clear shared.point (far here shared.point shared.point shared.in_a shared.in_b)
        | inr near ↦
            not_near clear (greatest_spacing_on library layer) (omega (arith, same)) near.p near.q (far here near.p near.q near.in_a near.in_b) near.near
      ]

  pub far_is_clean : (net layer : ℕ) (rect : RectModel) → IsFar layer rect → IsClean library (alone shape) net layer rect
  far_is_clean net layer rect far = record {
    far = λ s there closer. let P : Shape → Type 0 = λ s. AreCloserThan (greatest_spacing_on library layer) (net_metal net layer rect) s in
        not_closer net layer rect far (subst P (sym (the_only shape s there)) closer);
  }
