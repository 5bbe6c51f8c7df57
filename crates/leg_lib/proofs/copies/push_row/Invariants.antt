use Rattle.std.proofs.Common.{◌≡◌, ◌-◌}
use Rattle.leg_grammar.specs.Lef.Copies.{with_row}
use Rattle.leg_lib.proofs.copies.push_row.Given as goal

abbrev pub invariant-loop-k : goal.invariant-loop-k
invariant-loop-k g l =
    with_row l.figure l.pattern.x_step (l.pattern.columns - l.k) (record { x = l.x; y = l.way.y }) l.shapes.items
    ≡ with_row l.figure l.pattern.x_step l.pattern.columns l.way l.initial.shapes.items
