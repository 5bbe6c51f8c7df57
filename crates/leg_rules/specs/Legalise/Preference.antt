-- Which of two positions of a component is better (lefdef's own rule).
use Rattle.std.specs.Prelude.{◌≡◌, Bool, IsTrue, ◌≤◌, Option, None, Some}
use Rattle.leg_geom.specs.declared.orient.Orient.{Orient}
use Rattle.leg_rules.specs.Placement.Sites.{Fits}
use Rattle.leg_rules.specs.declared.position.Candidate.{Candidate}

-- a component of this orientation gets another one in a row: its own doesn't fit. One that has none gets the row's.
abbrev pub IsTurned : Orient → Bool → Option Orient → Type 0
IsTurned row y_symmetric None = ⊥
IsTurned row y_symmetric (Some old) = ¬ Fits row y_symmetric old

-- a position is nearer than another, or as near and better in this order: not turned, of a row of a lower number, and
-- further to the left; or it is just as good
pub record IsNoWorse (c d : Candidate) : Type 0 where
  pub distance : c.distance ≤ d.distance
  pub turned : c.distance ≡ d.distance → IsTrue c.turned → IsTrue d.turned
  pub row : c.distance ≡ d.distance → c.turned ≡ d.turned → c.row ≤ d.row
  pub first : c.distance ≡ d.distance → c.turned ≡ d.turned → c.row ≡ d.row → c.first ≤ d.first
