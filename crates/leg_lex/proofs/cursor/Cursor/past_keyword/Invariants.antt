use Rattle.std.proofs.Common.{◌≡◌, length}
use Rattle.leg_lex.specs.Words.{keyword_at}
use Rattle.leg_lex.specs.Past.{past}
use Rattle.leg_lex.proofs.cursor.Cursor.past_keyword.Given as goal

abbrev pub invariant-words : goal.invariant-words
invariant-words l = past (keyword_at l.keyword) l.self ≡ past (keyword_at l.keyword) l.initial.self

abbrev pub decreases-words : goal.decreases-words
decreases-words l = length l.self
