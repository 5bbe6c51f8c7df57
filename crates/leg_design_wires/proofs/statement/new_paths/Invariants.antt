use Rattle.std.proofs.Common.{◌≡◌, length}
use Rattle.leg_lex.specs.Until.{until}
use Rattle.leg_grammar.specs.Def.Wiring.{at_no_new, new_path}
use Rattle.leg_design_wires.proofs.statement.new_paths.Given as goal

abbrev pub invariant-paths : goal.invariant-paths
invariant-paths g l =
    until at_no_new (new_path l.scope l.special) l.wires.items l.words ≡ until at_no_new (new_path l.scope l.special) l.initial.wires.items l.initial.words

abbrev pub decreases-paths : goal.decreases-paths
decreases-paths g l = length l.words
