use Rattle.std.proofs.Common.{◌≡◌, take, true}
use Rattle.std.specs.List.{list_all}
use Rattle.leg_grammar.specs.Def.Clause.{is_clause}
use Rattle.leg_design_common.proofs.clause.all_clauses.Given as goal

abbrev pub invariant-loop-part : goal.invariant-loop-part
invariant-loop-part l = list_all is_clause (take l.part-index l.clauses) ≡ true
