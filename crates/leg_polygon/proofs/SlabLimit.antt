-- Polygons that denote nothing: with more slabs than there may be, and without any.
use Rattle.std.proofs.Common.{◌≡◌, ℕ, ◌<◌, false, List, [], ◌∷◌, length, None, refl, arith}
use Rattle.std.specs.Prelude.{nat_le}
use Rattle.std.proofs.lemmas.Bool.Decides.{nat_tests}
use Rattle.leg_geom.specs.Plane.{PointModel, RectModel}
use Rattle.leg_polygon.specs.Slab.{slabs, slabs_within}

pub none_over : (limit : ℕ) (points : List PointModel) → limit < length (slabs points) → slabs_within limit points ≡ None
none_over limit points over = rw (not_upto limit (length (slabs points)) over) refl where
  not_upto : (a b : ℕ) → a < b → nat_le b a ≡ false
  not_upto a b more = grind (arith, nat_tests)

pub none_there : (rects : List RectModel) → length rects ≡ 0 → rects ≡ []
none_there [] none = refl
none_there (r ∷ rects) none = absurd (omega (arith, none))
