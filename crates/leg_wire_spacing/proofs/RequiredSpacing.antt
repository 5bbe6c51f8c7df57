-- What proofs may know of the spacing that is required of two shapes, and of its bound on a layer. No other file opens the two.
use Rattle.std.proofs.Common.{◌≡◌, ◌↔◌, ◌≤◌, ℕ, length, refl, arith}
use Rattle.std.proofs.lemmas.Option.{slice_get_past}
use Rattle.leg_geom.specs.Plane.{PointModel, HasPoint}
use Rattle.leg_lib_records.specs.Records.{LibraryModel}
use Rattle.leg_rules.specs.declared.shape.Shape.{Shape}
use Rattle.leg_rules.specs.Spacing.RequiredSpacing.{greatest_spacing_on, required_spacing}

-- the same points on one layer, of one owner and one component
pub record HaveSamePoints (s t : Shape) : Type 0 where
  pub layer : s.layer ≡ t.layer
  pub owner : s.owner ≡ t.owner
  pub component : s.component ≡ t.component
  pub points : (p : PointModel) → HasPoint s.rect p ↔ HasPoint t.rect p

-- no two shapes of a layer have to lie farther apart than the greatest spacing on it
pub required_within : (library : LibraryModel) (a b : Shape) → required_spacing library a b ≤ greatest_spacing_on library a.layer
unfolding required_spacing greatest_spacing_on
required_within library a b = omega arith

-- the order of two shapes of one layer doesn't matter
pub required_back : (library : LibraryModel) (a b : Shape) → a.layer ≡ b.layer → required_spacing library a b ≡ required_spacing library b a
unfolding required_spacing
required_back library a b same = rw same refl

-- nor does it matter of which pieces they are, or how their rectangles are given
pub required_alike : (library : LibraryModel) (a b c d : Shape) → HaveSamePoints a c → HaveSamePoints b d
    → required_spacing library a b ≡ required_spacing library c d
unfolding required_spacing
required_alike library a b c d first second = rw first.layer refl

-- nothing has to lie apart where there is no layer
pub none_beyond : (library : LibraryModel) (number : ℕ) → length library.layers ≤ number → greatest_spacing_on library number ≡ 0
unfolding greatest_spacing_on
none_beyond library number beyond = rw (slice_get_past library.layers number beyond) refl
