use Rattle.std.proofs.Common.{length, ap, ◌∙◌, arith}
use Rattle.std.proofs.lemmas.List.{length-append}
use Rattle.leg_polygon.specs.Slab.{runs}
use Rattle.leg_polygon.proofs.EdgePairs.{length-runs}
use Rattle.leg_polygon.proofs.sweep.add_row.Goals as goal

pub returns-then-limit-len-clause-many : goal.returns-then-limit-len-clause-many
returns-then-limit-len-clause-many g c tested =
    let half = length-runs c.args.band.now c.args.edges.now in
    omega (arith, half, c.if-limit-len.true, c.len.ensures)

pub returns-clause-within : goal.returns-clause-within
returns-clause-within g c =
    let half = length-runs c.args.band.now c.args.edges.now in
    let long = ap length c.in_ok-add_runs.ensures ∙ length-append c.args.slabs.now.items (runs c.args.band.now c.args.edges.now) in
    omega (arith, half, long, c.if-limit-len.false, c.len.ensures)
