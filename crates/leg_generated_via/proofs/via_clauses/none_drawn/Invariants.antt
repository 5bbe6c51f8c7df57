use Rattle.std.proofs.Common.{◌≡◌, take, false}
use Rattle.std.specs.List.{list_any}
use Rattle.leg_grammar.specs.Def.GeneratedVia.{is_drawn}
use Rattle.leg_generated_via.proofs.via_clauses.none_drawn.Given as goal

abbrev pub invariant-loop-clause : goal.invariant-loop-clause
invariant-loop-clause l = list_any is_drawn (take l.clause-index l.clauses) ≡ false
