use Rattle.std.proofs.Common.{◌≡◌, [], drop}
use Rattle.leg_lex.specs.Until.{over}
use Rattle.leg_grammar.specs.Def.Rule.{rule_clause}
use Rattle.leg_design_floorplan.proofs.rule.all_widths.Given as goal

abbrev pub invariant-loop-part : goal.invariant-loop-part
invariant-loop-part g l = over (rule_clause l.library) l.widths (drop l.part-index l.clauses) ≡ over (rule_clause l.library) [] l.clauses
