use Rattle.std.proofs.Common.{◌++◌, ◌∷◌, [], ap, ◌∙◌, arith}
use Rattle.leg_route_grid.proofs.GridParts.{no_tables, one_table_more, all_tables}
use Rattle.leg_route_grid.proofs.grid.all_track_marks.Goals as goal

pub loop-k-init : goal.loop-k-init
loop-k-init g c = rw c.in_ok-tracks.ensures.items (no_tables _ _ _ _)

pub loop-k-preserved : goal.loop-k-preserved
loop-k-preserved g c =
    one_table_more c.args.design.now c.args.layers.now c.args.xs.now c.args.ys.now c.loop-k.k _ _ _ c.loop-k.invariant
    (c.in_ok-push.ensures.items ∙ ap (λ marks. c.loop-k.tracks.items ++ marks ∷ []) c.from_vec.ensures) c.in_ok-marks.ensures

pub returns : goal.returns
returns g c = all_tables c.args.design.now c.args.layers.now c.args.xs.now c.args.ys.now c.loop-k.k _ (omega arith) c.loop-k.invariant
