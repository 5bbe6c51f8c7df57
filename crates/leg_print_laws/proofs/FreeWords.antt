-- Words that stay one word in a text, and that neither end a statement nor begin a clause.
use Rattle.std.proofs.Common.{◌≡◌, ℕ, Bool, true, false, ◌&&◌, ◌||◌, ◌==◌, List, [], ◌∷◌, ◌++◌, All, ℤ, refl}
use Rattle.std.specs.List.{list_any, list_all, flat_map}
use Rattle.std.specs.Str.{bytes_eq}
use Rattle.std.proofs.lemmas.Bool.{false≢true, or_parts}
use Rattle.std.proofs.lemmas.List.Elements.{All-head, All-tail}
use Rattle.std.specs.Fmt.{signed_decimal}
use Rattle.leg_lex.specs.Words.{Words, is_name, is_word, is_mark_byte, is_plain}
use Rattle.leg_lex.specs.Statements.{is_semicolon, is_plus}
use Rattle.leg_lex.specs.Number.{IsNumber}
use Rattle.leg_lex.proofs.NameLookup.{same_name}
use Rattle.leg_output.specs.Words.{stays_one, is_printable}
use Rattle.leg_print_words.proofs.Numbers.{number_word}
use Rattle.leg_print_words.proofs.Printable.{printable_word, printable_append}

-- a name is a word
pub name_is_word : (word : List ℕ) → is_name word ≡ true → is_word word ≡ true
name_is_word word name = rw name refl

no_word_then : (plain quote : Bool) → ((plain && false) || (quote && false)) ≡ true → ⊥
no_word_then true true is = false≢true is
no_word_then true false is = false≢true is
no_word_then false true is = false≢true is
no_word_then false false is = false≢true is

-- a word is no mark
pub no_mark_byte : (m : ℕ) → is_mark_byte m ≡ true → (word : List ℕ) → is_word word ≡ true → bytes_eq word (m ∷ []) ≡ false
no_mark_byte m mark word is_one = by (bytes_eq word (m ∷ [])) refl where
  by : (same : Bool) → bytes_eq word (m ∷ []) ≡ same → bytes_eq word (m ∷ []) ≡ false
  by false is = is
  by true is =
      let e : word ≡ m ∷ [] = same_name word (m ∷ []) is in
      let one : is_word (m ∷ []) ≡ true = rw e at is_one in
      absurd (no_word_then (is_plain (m ∷ [])) (m == 34) (closed_is (m == 34) (rw mark at one))) where
        closed_is : (quote : Bool) → ((is_plain (m ∷ []) && false) || (quote && false)) ≡ true → ((is_plain (m ∷ []) && false) || (quote && false)) ≡ true
        closed_is quote h = h

-- A word that stays one, and is no semicolon.
pub record IsInside (word : List ℕ) : Type 0 where
  pub printable : is_printable word ≡ true
  pub semicolon : is_semicolon word ≡ false

-- The same of each of the words: they are those of a statement.
pub record AreInside (words : Words) : Type 0 where
  pub printable : list_all is_printable words ≡ true
  pub semicolon : list_any is_semicolon words ≡ false

-- .. and no plus either
pub record IsFree (word : List ℕ) : Type 0 where
  pub inside : IsInside word
  pub plus : is_plus word ≡ false

pub record AreFree (words : Words) : Type 0 where
  pub inside : AreInside words
  pub plus : list_any is_plus words ≡ false

pub free_literal : (word : List ℕ) → is_printable word ≡ true → is_semicolon word ≡ false → is_plus word ≡ false → IsFree word
free_literal word printable semicolon plus = record { inside = record { printable = printable; semicolon = semicolon }; plus = plus }

-- kept words, names and numbers
pub free_word : (word : List ℕ) → is_word word ≡ true → stays_one word ≡ true → IsFree word
free_word word is one = free_literal word (printable_word word is one) (no_mark_byte 59 refl word is) (no_mark_byte 43 refl word is)

pub free_name : (word : List ℕ) → is_name word ≡ true → stays_one word ≡ true → IsFree word
free_name word name one = free_word word (name_is_word word name) one

pub free_number : (z : ℤ) → IsNumber z → IsFree (signed_decimal z)
free_number z is =
    let word = number_word z is in
    let named = name_is_word (signed_decimal z) word.name in
    free_literal (signed_decimal z) word.printable (no_mark_byte 59 refl (signed_decimal z) named) (no_mark_byte 43 refl (signed_decimal z) named)

-- Lists of such words.
pub inside_nil : AreInside []
inside_nil = record { printable = refl; semicolon = refl }

pub inside_cons : {word : List ℕ} {words : Words} → IsInside word → AreInside words → AreInside (word ∷ words)
inside_cons first others = record {
  printable = rw (first.printable, others.printable) refl;
  semicolon = rw (first.semicolon, others.semicolon) refl;
}

-- what none of the words is
pub first_is_none : {X : Type 0} (p : X → Bool) (x : X) (xs : List X) → list_any p (x ∷ xs) ≡ false → p x ≡ false
first_is_none p x xs none = (or_parts (p x) (list_any p xs) none).0

pub others_are_none : {X : Type 0} (p : X → Bool) (x : X) (xs : List X) → list_any p (x ∷ xs) ≡ false → list_any p xs ≡ false
others_are_none p x xs none = (or_parts (p x) (list_any p xs) none).1

pub none_append : {X : Type 0} (p : X → Bool) (xs ys : List X) → list_any p xs ≡ false → list_any p ys ≡ false → list_any p (xs ++ ys) ≡ false
none_append p [] ys first others = others
none_append p (x ∷ xs) ys first others =
    rw (first_is_none p x xs first, none_append p xs ys (others_are_none p x xs first) others) refl

pub inside_append : {v w : Words} → AreInside v → AreInside w → AreInside (v ++ w)
inside_append {v} {w} first others = record {
  printable = printable_append v w first.printable others.printable;
  semicolon = none_append is_semicolon v w first.semicolon others.semicolon;
}

pub inside_each : {X : Type 0} (words : X → Words) (xs : List X) → All (λ x. AreInside (words x)) xs → AreInside (flat_map words xs)
inside_each words [] each = inside_nil
inside_each words (x ∷ xs) each =
    inside_append (All-head (λ x. AreInside (words x)) x xs each) (inside_each words xs (All-tail (λ x. AreInside (words x)) x xs each))

pub free_nil : AreFree []
free_nil = record { inside = inside_nil; plus = refl }

pub free_cons : {word : List ℕ} {words : Words} → IsFree word → AreFree words → AreFree (word ∷ words)
free_cons first others = record { inside = inside_cons first.inside others.inside; plus = rw (first.plus, others.plus) refl }

pub free_append : {v w : Words} → AreFree v → AreFree w → AreFree (v ++ w)
free_append {v} {w} first others = record { inside = inside_append first.inside others.inside; plus = none_append is_plus v w first.plus others.plus }

pub free_each : {X : Type 0} (words : X → Words) (xs : List X) → All (λ x. AreFree (words x)) xs → AreFree (flat_map words xs)
free_each words [] each = free_nil
free_each words (x ∷ xs) each =
    free_append (All-head (λ x. AreFree (words x)) x xs each) (free_each words xs (All-tail (λ x. AreFree (words x)) x xs each))
