use Rattle.std.proofs.Common.{ℕ, ◌<◌, get_or, map}
use Rattle.std.specs.List.{Contains}
use Rattle.leg_compare.specs.Steps.Words.{words_now}
use Rattle.leg_compare.proofs.WordSearch.{Words}
use Rattle.leg_compare.proofs.spelling.are_among.Given as goal

abbrev pub invariant-loop-number : goal.invariant-loop-number
invariant-loop-number l = (k : ℕ) (d : Words) → k < l.number → Contains (map words_now l.others) (words_now (get_or l.list k d))
