-- The kind that was tried, or a new one.
use Rattle.std.proofs.Common.{◌≡◌, length, arith}
use Rattle.std.proofs.lemmas.Grind.{common_steps}
use Rattle.leg_wire.proofs.AlikeMetal.{kind_pushed}
use Rattle.leg_wire.proofs.kinds.number_of_kind.Goals as goal

pub returns-in_ok-push-in_default-clause-kind : goal.returns-in_ok-push-in_default-clause-kind
returns-in_ok-push-in_default-clause-kind g c =
    let one = c.args.one.now in
    let last : c.len-number.result ≡ length c.args.kinds.now.items = grind (arith, common_steps) in
    rw c.in_ok-push-in_default.ensures.items (kind_pushed g.M.Metal.Alike c.args.kinds.now.items c.len-number.result one last (g.met.M.Metal.itself one))
