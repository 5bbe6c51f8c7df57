use Rattle.std.proofs.Common.{◌≡◌, [], drop}
use Rattle.leg_lex.specs.Until.{over}
use Rattle.leg_grammar.specs.Def.Via.{via_clause}
use Rattle.leg_design_floorplan.proofs.via.all_shapes.Given as goal

abbrev pub invariant-loop-i : goal.invariant-loop-i
invariant-loop-i g l =
    over (via_clause l.library) l.shapes (drop l.i l.clauses) ≡ over (via_clause l.library) [] l.clauses
