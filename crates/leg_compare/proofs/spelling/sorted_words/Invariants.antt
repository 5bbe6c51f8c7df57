use Rattle.std.proofs.Common.{◌≡◌, map, take}
use Rattle.leg_rules.specs.Compare.Spelling.{spelled_terminals}
use Rattle.leg_compare.specs.Steps.Words.{words_now}
use Rattle.leg_compare.proofs.spelling.sorted_words.Given as goal

abbrev pub invariant-loop-number : goal.invariant-loop-number
invariant-loop-number g l = map words_now l.words.items ≡ spelled_terminals l.design (take l.number l.terminals)
