-- The first component that is misplaced ends the search.
use Rattle.std.proofs.Common.{◌≡◌, length, arith}
use Rattle.std.proofs.lemmas.Bool.{false≢true}
use Rattle.leg_place.proofs.AnyViolation.{none_at_first, none_so_far}
use Rattle.leg_place.proofs.placed.is_one_misplaced.Goals as goal

pub loop-i-init : goal.loop-i-init
loop-i-init g c = none_at_first c.args.design.now

pub loop-i-preserved : goal.loop-i-preserved
loop-i-preserved g c = none_so_far c.args.design.now c.loop-i.i c.loop-i.invariant (λ m. false≢true (c.if-is_misplaced.ensures.1 m))

pub returns : goal.returns
returns g c =
    let last : c.loop-i.i ≡ length c.args.design.now.components = rw (← c.components-i-end.ensures.is) (omega arith) in
    (λ t. absurd (false≢true t), λ m. absurd (c.loop-i.invariant (rw last m)))
