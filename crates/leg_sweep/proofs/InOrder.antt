-- The ranges of the items in the order of the sweep.
use Rattle.std.proofs.Common.{◌≡◌, ℕ, ◌<◌, List, length, map, get_or, All, subst, ◌∙◌, arith}
use Rattle.std.proofs.Math.ListN.{get_or-map}
use Rattle.std.proofs.lemmas.List.{get_or_default, length-map}
use Rattle.leg_geom.specs.Plane.{RectModel}
use Rattle.leg_sweep.specs.declared.band.BandRange.{BandRange}
use Rattle.leg_sweep.specs.Steps.Bands.{range_at}
use Rattle.leg_sweep.specs.Steps.Sweep.{IsLeftToRight}
use Rattle.leg_sweep.proofs.Places.{order_below}

pub in_order_is : (ranges : List BandRange) (order : List ℕ) (in_order : List BandRange) (i : ℕ) (range : BandRange)
    → in_order ≡ map (range_at ranges) order → i < length order → range ≡ get_or in_order i range
    → range ≡ range_at ranges (get_or order i 0)
in_order_is ranges order in_order i range is within there =
    let f = range_at ranges in
    let long : i < length (map f order) = omega (arith, length-map order f, within) in
    there ∙ rw is (get_or_default (map f order) i range (f 0) long ∙ get_or-map f order i 0)

pub all_have_ranges : (rects : List RectModel) (ranges : List BandRange) (order : List ℕ) → IsLeftToRight rects order → length rects ≡ length ranges
    → All (λ x. x < length ranges) order
all_have_ranges rects ranges order is same =
    λ k d within. rw (get_or_default order k d 0 within) (subst (λ n. get_or order k 0 < n) same (order_below rects order is k within))
