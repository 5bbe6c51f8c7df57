use Rattle.std.proofs.Common.{◌≡◌, drop}
use Rattle.leg_lex.specs.Until.{over}
use Rattle.leg_grammar.specs.Lef.Copies.{with_moved}
use Rattle.leg_lib.proofs.copies.push_copy.Given as goal

abbrev pub invariant-loop-shape : goal.invariant-loop-shape
invariant-loop-shape g l =
    over (with_moved l.way) l.shapes.items (drop l.shape-index l.figure) ≡ over (with_moved l.way) l.initial.shapes.items l.figure
