use Rattle.std.proofs.Common.{List, All, sym, subst}
use Rattle.std.proofs.lemmas.List.{take_all}
use Rattle.leg_lib_records.specs.declared.records.Shape.{Shape}
use Rattle.leg_route_access.specs.Steps.Reaches.{ReachesShape}
use Rattle.leg_route_access.proofs.OpenVias.{all_and_more}
use Rattle.leg_route_access.proofs.MetalReach.{wider_shapes, wider_then}
use Rattle.leg_route_access.proofs.reach.with_shapes.Goals as goal

pub loop-shape-preserved : goal.loop-shape-preserved
loop-shape-preserved c =
    let wider = c.with_shape-reach.ensures.wider in (
      c.with_shape-reach.ensures.proper,
      wider_then c.args.reach c.loop-shape.reach c.with_shape-reach.result c.loop-shape.invariant.1 wider,
      (all_and_more (ReachesShape c.with_shape-reach.result c.args.layer) c.args.shapes.now c.loop-shape.shape-index c.shape-item.result
          c.loop-shape-test.true (sym c.shape-item.is)).1
          (wider_shapes c.loop-shape.reach c.with_shape-reach.result c.args.layer _ wider c.loop-shape.invariant.2, c.with_shape-reach.ensures.all),
    )

pub returns-clause-all : goal.returns-clause-all
returns-clause-all c =
    let P : List Shape → Type 0 = λ shapes. All (ReachesShape c.loop-shape.reach c.args.layer) shapes in
    subst P (take_all c.loop-shape.shape-index c.args.shapes.now c.loop-shape-test.false) c.loop-shape.invariant.2
