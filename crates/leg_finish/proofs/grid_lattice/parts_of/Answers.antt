use Rattle.std.proofs.Common.{◌<◌, All, length, arith}
use Rattle.std.proofs.lemmas.List.Elements.{All-push}
use Rattle.leg_finish.proofs.grid_lattice.parts_of.Goals as goal

pub loop-level-preserved : goal.loop-level-preserved
loop-level-preserved g c =
    let layers = length c.args.grid.now.layers in
    let low : c.loop-level.level < layers = omega (arith, c.layer_count-level-end.ensures, c.loop-level-test.true) in
    let pushed : All (λ part. part.level < layers) c.push.new.self.items =
    rw c.in_ok-push.ensures.items (All-push (λ part. part.level < layers) c.loop-level.parts.items _ c.loop-level.invariant low) in
    c.in_ok-push_via.ensures layers low pushed
