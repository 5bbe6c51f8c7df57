use Rattle.std.proofs.Common.{refl, arith}
use Rattle.leg_compare.proofs.ListsAlike.{same_elements}
use Rattle.leg_compare.proofs.lists.are_same_tracks.Goals as goal

pub returns : goal.returns
returns g c = (λ _. same_elements c.args.a.now c.args.b.now (omega arith) (λ k d e within. c.loop-i.invariant k d e (omega arith)), λ _. refl)
