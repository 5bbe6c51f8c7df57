use Rattle.std.proofs.lemmas.Bool.Decides.{Decides-at}
use Rattle.leg_compare.proofs.Decisions.{shapes_decide}
use Rattle.leg_compare.proofs.equal.are_same_shapes.Goals as goal

pub returns : goal.returns
returns g c = Decides-at c.eq.result _ c.eq.ensures (shapes_decide c.args.a.now c.args.b.now)
