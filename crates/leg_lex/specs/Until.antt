-- Forms one after the other.
use Rattle.std.specs.Prelude.{ℕ, zero, suc, Bool, if◌then◌else◌, List, [], ◌∷◌, length, Option, None, Some}
use Rattle.leg_lex.specs.Words.{Words, ◌>>=◌}

-- at most n forms, one after the other until the words stop them, each given what those before it made
unfoldable pub steps : {S : Type 0} → (Words → Bool) → (S → Words → Option (S × Words)) → ℕ → S → Words → Option (S × Words)
steps stop form zero made words = None
steps stop form (suc n) made words = if stop words then Some (made, words) else (do
  next ← form made words
  steps stop form n next.0 next.1)

-- Forms one after the other until the words stop them. Each form takes a word at least, so there are no
-- more of them than words.
abbrev pub until : {S : Type 0} → (Words → Bool) → (S → Words → Option (S × Words)) → S → Words → Option (S × Words)
until stop form made words = steps stop form (suc (length words)) made words

-- the same over a list, of which each element is taken in turn
unfoldable pub over : {S X : Type 0} → (S → X → Option S) → S → List X → Option S
over step made [] = Some made
over step made (x ∷ xs) = do
  next ← step made x
  over step next xs
