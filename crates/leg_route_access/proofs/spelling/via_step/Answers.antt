use Rattle.std.proofs.Common.{inl, inr, refl}
use Rattle.leg_route_access.proofs.ViaUp.{goes_up, goes_down}
use Rattle.leg_route_access.proofs.spelling.via_step.Goals as goal

pub via_up-requires : goal.via_up-requires
via_up-requires g c = (c.requires.0, goes_up c.args.grid.now.design c.args.a.now c.args.b.now c.requires.0 c.requires.1 c.if-a-b.true)

pub via_up-requires-else-a-b : goal.via_up-requires-else-a-b
via_up-requires-else-a-b g c = (c.requires.0, goes_down c.args.grid.now.design c.args.a.now c.args.b.now c.requires.0 c.requires.1 c.if-a-b.false)

pub returns-then-a-b : goal.returns-then-a-b
returns-then-a-b g c = record { via = c.via_up.result; over = inl c.via_up.ensures; is = refl }

pub returns-else-a-b : goal.returns-else-a-b
returns-else-a-b g c = record { via = c.via_up-else-a-b.result; over = inr c.via_up-else-a-b.ensures; is = refl }
