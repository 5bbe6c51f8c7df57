use Rattle.std.proofs.Common.{◌≡◌, map, take}
use Rattle.leg_lex.specs.WordPlaces.{word_at}
use Rattle.leg_lex.proofs.words.tokens_at.Given as goal

abbrev pub invariant-loop-place : goal.invariant-loop-place
invariant-loop-place g l = l.tokens.items ≡ map (word_at l.text) (take l.place-index l.places)
