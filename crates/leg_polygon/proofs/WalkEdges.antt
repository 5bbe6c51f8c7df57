-- The edges of a walk in a row, and the unit squares inside it.
use Rattle.std.proofs.Common.{◌≡◌, ℤ, ◌&&◌, Bool, true, false, List, get_or, map, refl, ◌∙◌}
use Rattle.std.specs.List.{filter}
use Rattle.std.specs.Prelude.{int_le}
use Rattle.leg_geom.specs.Plane.{PointModel}
use Rattle.leg_polygon.specs.Walk.{sides}
use Rattle.leg_polygon.specs.Inside.{is_odd, crosses, is_inside}
use Rattle.leg_polygon.specs.Slab.{edges}
use Rattle.leg_polygon.proofs.RisingNumbers.{Rise}
use Rattle.leg_polygon.proofs.Parity.{is_odd-agree}
use Rattle.leg_polygon.proofs.ParityLists.{is_odd-filter, is_odd-map}
use Rattle.leg_polygon.proofs.NumberFolds.{odd_rises, is_odd-odd}
use Rattle.leg_polygon.proofs.ClosedWalk.{sides_even}

module _ (walk : List (PointModel × PointModel)) (line : ℤ) where
  pub edges_rise : Rise (edges walk line)
  edges_rise = odd_rises (map (λ side. side.0.x) (filter (crosses line) walk))

  -- the parity of the edges that pass a test is that of the sides
  pub odd_edges : (test : ℤ → Bool) → is_odd test (edges walk line) ≡ is_odd (λ side. crosses line side && test side.0.x) walk
  odd_edges test =
      is_odd-odd test (map (λ side. side.0.x) (filter (crosses line) walk))
      ∙ is_odd-map test (λ side. side.0.x) (filter (crosses line) walk)
      ∙ is_odd-filter (λ side. test side.0.x) (crosses line) walk

  -- an odd number of edges stand at or to the west of a place just where its unit square is inside
  pub edges_upto : (x : ℤ) → is_odd (λ e. int_le e x) (edges walk line) ≡ is_inside walk (record { x = x; y = line })
  edges_upto x = odd_edges (λ e. int_le e x)

-- a closed walk has an even number of edges in each row
pub edges_even : (points : List PointModel) (line : ℤ) → is_odd (λ e. true) (edges (sides points) line) ≡ false
edges_even points line =
    odd_edges (sides points) line (λ e. true)
    ∙ is_odd-agree (λ side. crosses line side && true) (crosses line) (sides points) (λ k d within. and_true (crosses line (get_or (sides points) k d)))
    ∙ sides_even line points
  where
    and_true : (b : Bool) → (b && true) ≡ b
    and_true true = refl
    and_true false = refl
