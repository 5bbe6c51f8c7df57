use Rattle.std.proofs.Common.{◌≡◌, drop}
use Rattle.leg_grammar.specs.Def.CutPattern.{digit_at}
use Rattle.leg_generated_via.proofs.cut_pattern.digit_at.Given as goal

abbrev pub invariant-loop-run : goal.invariant-loop-run
invariant-loop-run l = digit_at (drop l.run-index l.runs) l.left ≡ digit_at l.runs l.place
