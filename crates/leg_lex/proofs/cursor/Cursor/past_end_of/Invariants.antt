use Rattle.std.proofs.Common.{◌≡◌, length}
use Rattle.leg_lex.specs.Words.{end_of}
use Rattle.leg_lex.specs.Past.{past}
use Rattle.leg_lex.proofs.cursor.Cursor.past_end_of.Given as goal

abbrev pub invariant-words : goal.invariant-words
invariant-words l = past (end_of l.name) l.self ≡ past (end_of l.name) l.initial.self

abbrev pub decreases-words : goal.decreases-words
decreases-words l = length l.self
