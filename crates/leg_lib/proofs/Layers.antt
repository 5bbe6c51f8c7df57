-- Layers: what is sought among their statements, and that each takes a word.
use Rattle.std.proofs.Common.{◌≡◌, ◌≢◌, ℕ, ◌+◌, ◌<◌, ◌≤◌, Bool, true, false, List, [], ◌∷◌, ◌++◌, length, get_or, drop, Option, None, Some, is_none, codes, refl, sym, ap, ◌∙◌, arith}
use Rattle.std.specs.List.{find, after_first}
use Rattle.std.proofs.lemmas.List.{drop_more, drop_all}
use Rattle.std.proofs.lemmas.Bool.{false≢true}
use Rattle.leg_lex.specs.Words.{Words, is_keyword, is_at}
use Rattle.leg_lex.specs.NameLookup.{place_of}
use Rattle.leg_lex.proofs.Until.{Below, below_none, below_some, below_bind, below_ask, below_if}
use Rattle.leg_lex.proofs.Shorter.{keyword_below, name_below, end_of_below}
use Rattle.leg_lex.proofs.Statements.{statements_below}
use Rattle.leg_lib_records.specs.Records.{RawLibraryModel, raw_layer_names}
use Rattle.leg_grammar.specs.Lef.Layer.{has_one_word, is_table, kind_in, spacing_of, layer_at, with_layer}

-- a statement of two words has one word after its keyword
pub two_words : (statement : Words) → length statement ≡ 2 → has_one_word statement ≡ true
two_words [] two = absurd (omega (arith, two))
two_words (a ∷ []) two = absurd (omega (arith, two))
two_words (a ∷ b ∷ []) two = refl
two_words (a ∷ b ∷ c ∷ words) two = absurd (omega (arith, two))

-- and no other has
pub not_two_words : (statement : Words) → length statement ≢ 2 → has_one_word statement ≡ false
not_two_words [] other = refl
not_two_words (a ∷ []) other = refl
not_two_words (a ∷ b ∷ []) other = absurd (other refl)
not_two_words (a ∷ b ∷ c ∷ words) other = refl

-- after its keyword a table has the word of its sort
pub is_table_of : (statement : Words) → is_at (codes "SPACINGTABLE") statement ≡ true
    → is_table statement ≡ is_at (codes "PARALLELRUNLENGTH") (after_first (is_keyword (codes "SPACINGTABLE")) statement)
is_table_of [] there = absurd (false≢true there)
is_table_of (word ∷ words) there = rw there refl

-- a statement of another keyword is no table
pub is_no_table : (statement : Words) → is_at (codes "SPACINGTABLE") statement ≡ false → is_table statement ≡ false
is_no_table [] other = refl
is_no_table (word ∷ words) other = rw other refl

module _ {X : Type 0} (test : X → Bool) where
  at_front : (xs : List X) (i : ℕ) (x : X) → i < length xs → x ≡ get_or xs i x → drop i xs ≡ x ∷ drop (i + 1) xs
  at_front xs i x less is = drop_more xs i x less ∙ ap (λ y. y ∷ drop (i + 1) xs) (sym is)

  -- the element that is sought
  pub found_here : (xs : List X) (i : ℕ) (x : X) (found : Option X) → i < length xs → x ≡ get_or xs i x → test x ≡ true → find test (drop i xs) ≡ found
      → Some x ≡ found
  found_here xs i x found less is this same = rw (at_front xs i x less is, this) at same

  -- another
  pub found_later : (xs : List X) (i : ℕ) (x : X) (found : Option X) → i < length xs → x ≡ get_or xs i x → test x ≡ false → find test (drop i xs) ≡ found
      → find test (drop (i + 1) xs) ≡ found
  found_later xs i x found less is other same = rw (at_front xs i x less is, other) at same

  -- no element is left
  pub found_nowhere : (xs : List X) (i : ℕ) (found : Option X) → length xs ≤ i → find test (drop i xs) ≡ found → None ≡ found
  found_nowhere xs i found past same = rw (drop_all i xs past) at same

layer_below : (words : Words) → Below (length words) (layer_at words)
unfolding layer_at
layer_below words =
    below_bind (omega arith) (keyword_below (codes "LAYER") words) (λ start less.
    below_bind (omega arith) (name_below start.1) (λ name fewer.
    below_bind (omega arith) (statements_below name.1) (λ body no_more.
    below_ask (kind_in body.0) (λ kind.
    below_ask (spacing_of body.0) (λ spacing.
    below_bind (omega arith) (end_of_below name.0 body.1) (λ end last.
    below_some (record { name = name.0; kind = kind; spacing = spacing }) end.1 last))))))

-- A layer's form takes a word.
pub with_layer_below : (library : RawLibraryModel) (words : Words) → Below (length words) (with_layer library words)
unfolding with_layer
with_layer_below library words =
    below_bind (omega arith) (layer_below words) (λ layer less.
    below_if (is_none (place_of layer.0.name (raw_layer_names library)))
    (below_some (record library { layers = library.layers ++ layer.0 ∷ [] }) layer.1 less)
    (below_none (length words)))
