use Rattle.std.proofs.Common.{◌≡◌, drop}
use Rattle.leg_lex.specs.Until.{over}
use Rattle.leg_grammar.specs.Def.PinClauses.{no_pin_clauses, pin_clause}
use Rattle.leg_design_floorplan.proofs.pin_parts.all_parts.Given as goal

abbrev pub invariant-loop-clause : goal.invariant-loop-clause
invariant-loop-clause g l =
    over (pin_clause l.scope) l.parts (drop l.clause-index l.clauses) ≡ over (pin_clause l.scope) no_pin_clauses l.clauses
