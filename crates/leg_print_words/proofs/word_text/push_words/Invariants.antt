use Rattle.std.proofs.Common.{◌≡◌, ◌++◌, map, take}
use Rattle.leg_output.specs.Words.{spaced}
use Rattle.leg_print_words.proofs.word_text.push_words.Given as goal

-- the words so far, each behind a blank
abbrev pub invariant-words : goal.invariant-words
invariant-words g l = l.text.items ≡ l.fn.text.items ++ spaced (map (λ word. word.now) (take l.word-index l.words))
