use Rattle.std.proofs.Common.{◌≡◌, length}
use Rattle.leg_lex.specs.Past.{past}
use Rattle.leg_grammar.specs.Def.Header.{microns_at}
use Rattle.leg_design.proofs.header.past_microns.Given as goal

abbrev pub invariant-words : goal.invariant-words
invariant-words l = past microns_at l.words ≡ past microns_at l.initial.words

abbrev pub decreases-words : goal.decreases-words
decreases-words l = length l.words
