-- The words behind an END that was looked for: they needn't be looked for again before that END is passed.
use Rattle.std.specs.Prelude.{◌≡◌, ℕ, ◌<◌, length, drop}
use Rattle.std.specs.List.{after_first}
use Rattle.leg_lex.specs.Words.{Words}
use Rattle.leg_drc_rules.specs.Section.{is_end}

-- wherever more words than these are left, these are behind the next END
abbrev pub AreBehindEnd : Words → Words → Type 0
AreBehindEnd words seen = (n : ℕ) → length seen < length (drop n words) → after_first is_end (drop n words) ≡ seen
