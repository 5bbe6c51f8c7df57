use Rattle.std.proofs.Common.{◌≡◌, ◌-◌}
use Rattle.leg_grammar.specs.Lef.Copies.{with_rows}
use Rattle.leg_lib.proofs.copies.push_rows.Given as goal

abbrev pub invariant-loop-k : goal.invariant-loop-k
invariant-loop-k g l =
    with_rows l.figure l.pattern (l.pattern.rows - l.k) (record { x = l.way.x; y = l.y }) l.shapes.items
    ≡ with_rows l.figure l.pattern l.pattern.rows l.way l.initial.shapes.items
