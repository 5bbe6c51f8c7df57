-- How far the metal of slots reaches.
use Rattle.std.proofs.Common.{◌≡◌, ℕ, zero, suc, ◌+◌, ◌-◌, ◌<◌, ◌≤◌, ◌⊎◌, inl, inr, ℤ, pos, ◌+ℤ◌, ◌-ℤ◌, ◌≤ℤ◌, ◌<ℤ◌, Bool, List, All, get_or, Option, None, Some, slice_get, FitsSigned, w64, arith}
use Rattle.std.proofs.lemmas.Int.{ints}
use Rattle.std.specs.Int.{int_max}
use Rattle.std.specs.Option.{unwrap_or}
use Rattle.leg_lemmas.proofs.Integers.{cases_lt_z}
use Rattle.leg_lex.specs.declared.limits.TheConstants.{NUMBER_LIMIT}
use Rattle.leg_lex.specs.Number.{IsNumber}
use Rattle.leg_geom.specs.Plane.{RectModel, IsCoordinate}
use Rattle.leg_lib_records.specs.declared.records.Shape.{Shape}
use Rattle.leg_route_access.specs.Steps.Reaches.{one_if, IsDistance, IsFar, IsReach, ReachesAll, IsWider, ReachesShape}
use Rattle.leg_geom.specs.Line.{ArePlaces}
use Rattle.leg_route_access.specs.Steps.AccessUpdates.{ArePlacesNear}

-- what reaches so far reaches as far where the reach is wider
pub wider_all : (reach wider : Option ℤ) (rect : RectModel) → IsWider reach wider → ReachesAll reach rect → ReachesAll wider rect
wider_all reach wider rect is all = record { x1 = is _ all.x1; y1 = is _ all.y1; x2 = is _ all.x2; y2 = is _ all.y2 }

pub wider_shapes : (reach wider : Option ℤ) (layer : ℕ) (shapes : List Shape) → IsWider reach wider → All (ReachesShape reach layer) shapes
    → All (ReachesShape wider layer) shapes
wider_shapes reach wider layer shapes is all k d within on = wider_all reach wider (get_or shapes k d).rect is (all k d within on)

pub wider_then : (a b c : Option ℤ) → IsWider a b → IsWider b c → IsWider a c
wider_then a b c first then z reaches = then z (first z reaches)

-- places from the last value below
pub places_before : (values : List ℤ) (back : Bool) (low high : ℤ) (first end near : ℕ) → ArePlaces values low high first end
    → (near + one_if back ≤ first) ⊎ (near ≡ 0) → ArePlacesNear values back low high near end
places_before values back low high first end near places early = record {
  within = places.within;
  before = λ k m z below upto there. lower m z there (by k m early below upto);
  behind = λ k z from there. higher k z there from;
} where
  by : (k m : ℕ) → (near + one_if back ≤ first) ⊎ (near ≡ 0) → k < near → m ≤ k + one_if back → m < first
  by k m (inl some) below upto = omega (arith, some, below, upto)
  by k m (inr none) below upto = absurd (omega (arith, none, below))

  lower : (m : ℕ) (z : ℤ) → slice_get values m ≡ Some z → m < first → z <ℤ low
  lower m z there before = elim (cases_lt_z z low) [
    | inl less ↦ less
    | inr least ↦ absurd (let from = places.first_in m z there least in omega (arith, from, before))
  ]

  higher : (k : ℕ) (z : ℤ) → slice_get values k ≡ Some z → end ≤ k → high <ℤ z
  higher k z there from = elim (cases_lt_z high z) [
    | inl more ↦ more
    | inr most ↦ absurd (let below = places.end_in k z there most in omega (arith, from, below))
  ]

pub place_before : (first near : ℕ) → near ≡ first - 1 → (near + 1 ≤ first) ⊎ (near ≡ 0)
place_before zero near is = inr (omega (arith, is))
place_before (suc first) near is = inl (omega (arith, is))

-- the reach with which one begins
pub begun_distance : (reach : Option ℤ) (u : ℤ) → u ≡ unwrap_or reach (pos 0) → IsReach reach → IsDistance u
begun_distance None u is proper = record { least = omega (arith, ints, is); most = omega (arith, ints, is) }
begun_distance (Some reach) u is proper =
    let same : u ≡ reach = is in
    rw same proper

pub begun_wider : (reach : Option ℤ) (u : ℤ) → u ≡ unwrap_or reach (pos 0) → IsWider reach (Some u)
begun_wider None u is z reaches = absurd reaches
begun_wider (Some reach) u is z reaches = let same : u ≡ reach = is in rw same reaches

-- the greater of a reach and a number
pub record IsWidened (a b m : ℤ) : Type 0 where
  pub distance : IsDistance m
  pub from : a ≤ℤ m
  pub past : b ≤ℤ m

greater : (a b m : ℤ) → m ≡ int_max a b → (a ≤ℤ m) × (b ≤ℤ m) × ((m ≡ a) ⊎ (m ≡ b))
greater a b m is = grind (arith, ints)

most_of : (a b m : ℤ) → m ≡ int_max a b → a ≤ℤ pos NUMBER_LIMIT → b ≤ℤ pos NUMBER_LIMIT → m ≤ℤ pos NUMBER_LIMIT
most_of a b m is first second = elim (greater a b m is).2 [ inl same ↦ omega (arith, ints, same, first) | inr same ↦ omega (arith, ints, same, second) ]

pub widened : (a b m : ℤ) → IsDistance a → IsNumber b → m ≡ int_max a b → IsWidened a b m
widened a b m proper within is =
    let least = proper.least in
    let both = greater a b m is in
    let from = both.0 in
    record {
      distance = record { least = omega (arith, ints); most = most_of a b m is proper.most (omega (arith, ints)) };
      from = from;
      past = both.1;
    }

pub distance_fits : (m : ℤ) → IsDistance m → FitsSigned w64 m
distance_fits m is = let least = is.least in let most = is.most in omega (arith, ints)

pub coordinate_fits : (z : ℤ) → IsCoordinate z → FitsSigned w64 z
coordinate_fits z within = omega (arith, ints)

pub turned : (z : ℤ) → IsNumber z → IsNumber (pos 0 -ℤ z)
turned z within = omega (arith, ints)

pub far_fits : (far : ℤ) → IsFar far → FitsSigned w64 far
far_fits far is = let least = is.least in let most = is.most in omega (arith, ints)

pub low_fits : (low far : ℤ) → IsCoordinate low → IsFar far → FitsSigned w64 (low -ℤ far)
low_fits low far within is = let least = is.least in let most = is.most in omega (arith, ints)

pub high_fits : (high far : ℤ) → IsCoordinate high → IsFar far → FitsSigned w64 (high +ℤ far)
high_fits high far within is = let least = is.least in let most = is.most in omega (arith, ints)
