use Rattle.std.proofs.Common.{◌≡◌, drop}
use Rattle.leg_grammar.specs.Def.CutPattern.{digits_of_row}
use Rattle.leg_generated_via.proofs.cut_pattern.digits_of_row.Given as goal

abbrev pub invariant-loop-same : goal.invariant-loop-same
invariant-loop-same g l = digits_of_row (drop l.same-index l.rows) l.left ≡ digits_of_row l.rows l.row
