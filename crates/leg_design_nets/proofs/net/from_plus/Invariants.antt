use Rattle.std.proofs.Common.{◌≡◌, length}
use Rattle.leg_grammar.specs.Def.Net.{from_plus}
use Rattle.leg_design_nets.proofs.net.from_plus.Given as goal

abbrev pub invariant-words : goal.invariant-words
invariant-words l = from_plus l.words ≡ from_plus l.initial.words

abbrev pub decreases-words : goal.decreases-words
decreases-words l = length l.words
