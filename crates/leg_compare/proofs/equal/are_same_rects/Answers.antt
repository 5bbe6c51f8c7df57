use Rattle.std.proofs.lemmas.Bool.Decides.{Decides-at}
use Rattle.leg_compare.proofs.Decisions.{rects_decide}
use Rattle.leg_compare.proofs.equal.are_same_rects.Goals as goal

pub returns : goal.returns
returns g c = Decides-at c.eq.result _ c.eq.ensures (rects_decide c.args.a.now c.args.b.now)
