use Rattle.std.proofs.Common.{◌≡◌, rules}
use Rattle.std.proofs.lemmas.List.Sorted.{answers_always}
use Rattle.leg_geom.specs.Plane.{PointModel}
use Rattle.leg_polygon.proofs.SideEnds.{sorted_climb}
use Rattle.leg_polygon.proofs.side_end.sort_by_height.Goals as goal

pub returns-clause-in_order : goal.returns-clause-in_order
returns-clause-in_order g c =
    sorted_climb _ (c.sort_unstable_by_key.ensures.sorted (λ (p : PointModel). p.y)
    (answers_always _ (λ a r. r ≡ a.0.now.y) _ (λ f a r k called. search rules)))
