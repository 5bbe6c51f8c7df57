-- The free sites of one row that are nearest to a component's start.
use Rattle.std.specs.Prelude.{ℕ, pos, ◌<◌, ◌≤◌, ℤ, ◌≤ℤ◌, ◌+ℤ◌, ◌*ℤ◌, List, Option, None, Some}
use Rattle.leg_geom.specs.Gap.{apart}
use Rattle.leg_geom.specs.Plane.{IsCoordinate}
use Rattle.leg_legal_sites.specs.declared.stretch.Stretch.{Stretch}
use Rattle.leg_legal_sites.specs.declared.nearest.Pitch.{Pitch}
use Rattle.leg_legal_sites.specs.Steps.Stretches.{IsFreeSite, AreFreeSites}

-- the left edge of site k
abbrev pub site_x : Pitch → ℕ → ℤ
site_x pitch k = pitch.left +ℤ pos k *ℤ pitch.width

-- how far along x site k begins from the start
abbrev pub x_away : Pitch → ℕ → ℕ
x_away pitch k = apart (site_x pitch k) pitch.start

-- a site has a width, and the other numbers are within the limit
pub record IsPitch (pitch : Pitch) : Type 0 where
  pub wide : pos 1 ≤ℤ pitch.width
  pub left : IsCoordinate pitch.left
  pub start : IsCoordinate pitch.start

-- each free site begins within the limit
abbrev pub BeginWithin : Pitch → List Stretch → Type 0
BeginWithin pitch free = (k : ℕ) → IsFreeSite free k → IsCoordinate (site_x pitch k)

-- this many free sites begin with this one, which isn't below the least
pub record FitsFrom (free : List Stretch) (many least first : ℕ) : Type 0 where
  pub sites : AreFreeSites free many first
  pub above : least ≤ first

-- this many free sites begin with this one, which isn't above the most
pub record FitsUpTo (free : List Stretch) (many most first : ℕ) : Type 0 where
  pub sites : AreFreeSites free many first
  pub upto : first ≤ most

-- the least number with a property, or that there is none
abbrev pub IsFirstFit : (ℕ → Type 0) → Option ℕ → Type 0
IsFirstFit P None = (k : ℕ) → ¬ P k
IsFirstFit P (Some first) = P first × ((k : ℕ) → P k → first ≤ k)

-- the greatest one, or that there is none
abbrev pub IsLast : (ℕ → Type 0) → Option ℕ → Type 0
IsLast P None = (k : ℕ) → ¬ P k
IsLast P (Some last) = P last × ((k : ℕ) → P k → k ≤ last)

-- the distance falls up to the lowest site, and rises from it on
pub record IsValley (away : ℕ → ℕ) (lowest : ℕ) : Type 0 where
  pub falls : (j k : ℕ) → j < k → k ≤ lowest → away k < away j
  pub rises : (j k : ℕ) → lowest ≤ j → j ≤ k → away j ≤ away k

-- the nearest site with a property, the first of those that are as near
pub record IsLeastOf (away : ℕ → ℕ) (P : ℕ → Type 0) (k : ℕ) : Type 0 where
  pub holds : P k
  pub near : (j : ℕ) → P j → away k ≤ away j
  pub first : (j : ℕ) → P j → away j ≤ away k → k ≤ j

-- that one, or that there is none
abbrev pub IsNearest : (ℕ → ℕ) → (ℕ → Type 0) → Option ℕ → Type 0
IsNearest away P None = (k : ℕ) → ¬ P k
IsNearest away P (Some k) = IsLeastOf away P k
