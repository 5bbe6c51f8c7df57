use Rattle.std.proofs.Common.{◌∷◌, [], arith, length-append}
use Rattle.leg_route_grid.proofs.HullBoxes.{hulls_push, hulls_stay}
use Rattle.leg_route_grid.proofs.hulls.add_hulls.Goals as goal

pub loop-last-init : goal.loop-last-init
loop-last-init g c =
    let had = c.requires in
    let first = had.2 in
    record { count = omega (arith, c.len-last.ensures, c.args.hulls.now.ok.0); each = rw first (hulls_stay had.0 had.1 c.args.hulls.now.items had.3) }

pub loop-last-preserved : goal.loop-last-preserved
loop-last-preserved g c =
    let so_far = c.loop-last.invariant in
    rw c.in_ok-push.ensures.items (record {
      count = let long = length-append c.loop-last.hulls.items (c.hull_to-hull.result ∷ []) in let count = so_far.count in omega (arith, long, count);
      each = hulls_push c.args.boxes.now c.loop-last.hulls.items c.loop-last.last c.hull_to-hull.result so_far.count so_far.each c.hull_to-hull.ensures;
    })
