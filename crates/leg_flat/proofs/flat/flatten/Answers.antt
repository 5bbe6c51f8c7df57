-- A flat keeps its limits: shapes were counted, and the nets of a design are few.
use Rattle.std.proofs.Common.{length}
use Rattle.leg_lib_records.proofs.OneEach.{same_length}
use Rattle.leg_rules.specs.Metal.Metal.{metal_of}
use Rattle.leg_rules.specs.Metal.Flat.{IsShapeOf}
use Rattle.leg_flat.proofs.Counts.{counted_within}
use Rattle.leg_flat.proofs.flat.flatten.Goals as goal

pub invariant_of-result : goal.invariant_of-result
invariant_of-result g c =
    let metal = metal_of c.args.design.now in
    let shapes = c.in_ok-shapes.shapes.items in
    record {
      shapes =
          rw (same_length IsShapeOf metal shapes c.in_ok-shapes.ensures) at
          (counted_within (length metal) c.shape_count-count.result c.shape_count-count.ensures c.if-count-gt-PART_LIMIT.false);
      nets = rw c.into_pieces.ensures c.in_ok-nets.ensures.nets;
      pieces = rw c.into_pieces.ensures c.in_ok-nets.ensures.pieces;
      of_nets = rw c.into_pieces.ensures (c.in_ok-nets.ensures.of_nets _);
    }
