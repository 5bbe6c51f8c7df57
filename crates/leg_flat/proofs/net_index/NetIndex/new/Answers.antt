use Rattle.std.proofs.lemmas.Result.{IfOk-from_err}
use Rattle.leg_flat.proofs.net_index.NetIndex.new.Goals as goal

pub names_of-requires : goal.names_of-requires
names_of-requires g c = rw c.nets.ensures.is c.nets.ensures.proper.nets.nets.apart

pub names_of-requires-2 : goal.names_of-requires-2
names_of-requires-2 g c = rw c.special.ensures.is c.special.ensures.proper.nets.special.apart

pub returns-in_err-names_of : goal.returns-in_err-names_of
returns-in_err-names_of g c = IfOk-from_err _ _ c.from_residual.ensures.0

pub returns-in_err-names_of-2 : goal.returns-in_err-names_of-2
returns-in_err-names_of-2 g c = IfOk-from_err _ _ c.from_residual-in_err-names_of-2.ensures.0

pub invariant_of-result : goal.invariant_of-result
invariant_of-result g c =
    (rw c.nets.ensures.is at c.in_ok-names_of.ensures, rw c.special.ensures.is at c.in_ok-names_of-2.ensures)
