use Rattle.std.proofs.Common.{◌≡◌, length}
use Rattle.std.specs.List.{after_first}
use Rattle.leg_lex.specs.Words.{is_keyword}
use Rattle.leg_lex.proofs.cursor.Cursor.skip_past.Given as goal

abbrev pub invariant-words : goal.invariant-words
invariant-words l = after_first (is_keyword l.keyword) l.self ≡ after_first (is_keyword l.keyword) l.initial.self

abbrev pub decreases-words : goal.decreases-words
decreases-words l = length l.self
