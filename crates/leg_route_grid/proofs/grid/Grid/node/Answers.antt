use Rattle.std.proofs.Common.{◌≡◌, FitsSigned, w64, Some, refl, sym, ap, ◌∙◌, arith}
use Rattle.std.proofs.lemmas.Int.{ints, to_z-of_z}
use Rattle.leg_geom.specs.Plane.{PointModel}
use Rattle.leg_route_grid.proofs.grid.Grid.node.Goals as goal

pub returns-clause-is : goal.returns-clause-is
returns-clause-is g c =
    let x_fits : FitsSigned w64 c.x_at-x.result = let within = c.x_at-x.ensures.within in omega (arith, ints, within) in
    let y_fits : FitsSigned w64 c.y_at-y.result = let within = c.y_at-y.ensures.within in omega (arith, ints, within) in
    let point : c.point_at.result ≡ record { x = c.x_at-x.result; y = c.y_at-y.result } = simp to_z-of_z at c.point_at.ensures in
    record {
      k = c.slot-slot.result.layer;
      j = c.slot-slot.result.row;
      i = c.slot-slot.result.column;
      slot = c.slot-slot.ensures.is;
      lies = record {
        layer = c.layer_at-layer.result;
        there = c.layer_at-layer.ensures.is;
        on = refl;
        y = c.y_at-y.ensures.is ∙ ap Some (sym (ap (λ (p : PointModel). p.y) point));
        x = c.x_at-x.ensures.is ∙ ap Some (sym (ap (λ (p : PointModel). p.x) point));
      };
    }

pub returns-clause-within : goal.returns-clause-within
returns-clause-within g c =
    let x_fits : FitsSigned w64 c.x_at-x.result = let within = c.x_at-x.ensures.within in omega (arith, ints, within) in
    let y_fits : FitsSigned w64 c.y_at-y.result = let within = c.y_at-y.ensures.within in omega (arith, ints, within) in
    let point : c.point_at.result ≡ record { x = c.x_at-x.result; y = c.y_at-y.result } = simp to_z-of_z at c.point_at.ensures in
    rw point (record { x = c.x_at-x.ensures.within; y = c.y_at-y.ensures.within })
