-- The least squared distance is less than the distance's square.
use Rattle.std.proofs.Common.{◌≡◌, get_or, to_z, of_z, arith}
use Rattle.std.specs.Int.{w128}
use Rattle.std.proofs.lemmas.Int.{to_z-of_z}
use Rattle.leg_drc.proofs.NearRects.{nearer_test}
use Rattle.leg_drc.proofs.cut_rule.NearCuts.are_within.Goals as goal

pub returns : goal.returns
returns c =
    let gap = c.gap2.ensures in
    let low : to_z w128 (of_z w128 c.gap2.result) ≡ c.gap2.result = grind (arith, to_z-of_z) in
    let high : to_z w128 (of_z w128 c.from.result) ≡ c.from.result = grind (arith, to_z-of_z) in
    rw (low, high, gap.1, c.from.ensures, c.from-reach.ensures, c.reach_on.ensures) (nearer_test (get_or c.args.self.now.reaches.now c.args.layer 0)
    c.args.a.now c.args.b.now gap.0 gap.2)
