-- The first component that is unsuited is found, or there is none.
use Rattle.std.proofs.Common.{◌≡◌, length, refl, arith}
use Rattle.std.proofs.lemmas.Bool.{false≢true}
use Rattle.leg_legal.proofs.Misfits.{NoneUnsuitedBelow, none_unsuited_more, all_suited, least_is}
use Rattle.leg_legal.proofs.unsuited.first_unsuited.Goals as goal

pub returns-then-is_unsuited : goal.returns-then-is_unsuited
returns-then-is_unsuited g c = least_is c.args.design.now c.loop-i.i c.loop-i.invariant (c.if-is_unsuited.ensures.0 refl)

pub loop-i-preserved : goal.loop-i-preserved
loop-i-preserved g c = none_unsuited_more c.args.design.now c.loop-i.i (λ u. false≢true (c.if-is_unsuited.ensures.1 u)) c.loop-i.invariant

pub returns : goal.returns
returns g c =
    let last : c.loop-i.i ≡ length c.args.design.now.components = rw (← c.components-i-end.ensures.is) (omega arith) in
    let none : NoneUnsuitedBelow c.args.design.now (length c.args.design.now.components) = rw (← last) c.loop-i.invariant in
    all_suited c.args.design.now none
