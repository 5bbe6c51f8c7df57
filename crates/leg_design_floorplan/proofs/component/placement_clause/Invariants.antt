use Rattle.std.proofs.Common.{◌≡◌, take, filter}
use Rattle.leg_grammar.specs.Def.Component.{is_placement}
use Rattle.leg_design_floorplan.proofs.OneOfKind.{as_list}
use Rattle.leg_design_floorplan.proofs.component.placement_clause.Given as goal

abbrev pub invariant-loop-clause : goal.invariant-loop-clause
invariant-loop-clause l = filter is_placement (take l.clause-index l.clauses) ≡ as_list l.found
