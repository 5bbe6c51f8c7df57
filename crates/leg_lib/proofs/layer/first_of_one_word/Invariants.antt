use Rattle.std.proofs.Common.{◌≡◌, drop}
use Rattle.leg_grammar.specs.Lef.Layer.{first_of_one_word}
use Rattle.leg_lib.proofs.layer.first_of_one_word.Given as goal

abbrev pub invariant-loop-statement : goal.invariant-loop-statement
invariant-loop-statement l = first_of_one_word l.keyword (drop l.statement-index l.statements) ≡ first_of_one_word l.keyword l.statements
