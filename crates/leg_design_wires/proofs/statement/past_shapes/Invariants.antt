use Rattle.std.proofs.Common.{◌≡◌, length}
use Rattle.leg_lex.specs.Until.{until}
use Rattle.leg_grammar.specs.Def.Wiring.{at_no_shape, past_shape}
use Rattle.leg_design_wires.proofs.statement.past_shapes.Given as goal

abbrev pub invariant-shapes : goal.invariant-shapes
invariant-shapes l = until at_no_shape past_shape tt l.words ≡ until at_no_shape past_shape tt l.initial.words

abbrev pub decreases-shapes : goal.decreases-shapes
decreases-shapes l = length l.words
