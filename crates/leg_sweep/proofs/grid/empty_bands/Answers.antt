use Rattle.std.proofs.Common.{◌≡◌, length, arith}
use Rattle.leg_sweep.proofs.GridBands.{bands_more}
use Rattle.leg_sweep.proofs.grid.empty_bands.Goals as goal

pub loop-layer-preserved : goal.loop-layer-preserved
loop-layer-preserved g c =
    let reach_of = g.R.LayeredRule.layer_reach_of (g.R.PairRule.fixed c.args.rule.now) in
    rw (c.in_ok-push_bands.ensures, c.layer_reach.ensures)
    (bands_more reach_of c.args.grid.now c.loop-layer.layer c.loop-layer.bands.items c.loop-layer.invariant (omega arith))

pub returns : goal.returns
returns g c = let end : c.loop-layer.layer ≡ length c.args.grid.now = omega arith in rw end at c.loop-layer.invariant
