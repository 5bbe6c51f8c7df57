-- The forms of a text's words: each takes a word, and what their loop keeps.
use Rattle.std.proofs.Common.{◌≡◌, ℕ, ◌<◌, ◌≤◌, true, false, ◌&&◌, List, [], ◌∷◌, length, drop, Option, None, Some, ℤ, is_none, codes, refl, arith}
use Rattle.leg_lex.specs.Words.{Words}
use Rattle.leg_lex.specs.Until.{until}
use Rattle.leg_lex.proofs.Until as loops
use Rattle.leg_lex.proofs.Until.{Below, Shortens, below_none, below_some, below_bind, below_ask, below_if}
use Rattle.leg_lex.proofs.Shorter.{keyword_below, name_below}
use Rattle.leg_lib_records.specs.Records.{LibraryModel}
use Rattle.std.specs.List.{after_first}
use Rattle.std.specs.Str.{bytes_eq}
use Rattle.std.specs.Prelude.{not}
use Rattle.std.proofs.lemmas.List.{length-drop}
use Rattle.leg_drc_rules.specs.Section.{SectionModel, section_at, at_semicolon, is_end}
use Rattle.leg_drc_rules.specs.Amount.{amount_at}
use Rattle.leg_drc_rules.specs.Records.{RawDeckModel}
use Rattle.leg_drc_rules.specs.Table.{at_no_word}
use Rattle.leg_drc_rules.specs.Deck.{is_grid, word_form_at, with_section, form_of, form_at}
use Rattle.leg_drc_rules.proofs.Tables.{amount_below}

-- a word alone
pub word_alone : (deck : RawDeckModel) (words : Words) → (words ≡ [] → ⊥) → (is_none deck.grid && is_grid words) ≡ false
    → word_form_at deck words ≡ Some (deck, drop 1 words)
unfolding word_form_at
word_alone deck [] some other = absurd (some refl)
word_alone deck (word ∷ words) some other = rw other refl

-- a grid
pub grid_there : (deck : RawDeckModel) (words rest : Words) (grid : ℤ) → (words ≡ [] → ⊥) → (is_none deck.grid && is_grid words) ≡ true
    → amount_at (drop 1 words) ≡ Some (grid, rest) → word_form_at deck words ≡ Some (record deck { grid = Some grid }, rest)
unfolding word_form_at
grid_there deck [] rest grid some there said = absurd (some refl)
grid_there deck (word ∷ words) rest grid some there said = rw (there, said) refl

-- a grid that is no number
pub grid_bad : (deck : RawDeckModel) (words : Words) → (words ≡ [] → ⊥) → (is_none deck.grid && is_grid words) ≡ true → amount_at (drop 1 words) ≡ None
    → word_form_at deck words ≡ None
unfolding word_form_at
grid_bad deck [] some there said = absurd (some refl)
grid_bad deck (word ∷ words) some there said = rw (there, said) refl

word_form_below : (deck : RawDeckModel) (words : Words) → Below (length words) (word_form_at deck words)
unfolding word_form_at
word_form_below deck [] = below_none 0
word_form_below deck (word ∷ words) =
    below_if (is_none deck.grid && is_grid (word ∷ words))
    (below_bind (omega arith) (amount_below words) (λ grid less. below_some _ grid.1 (omega arith)))
    (below_some deck words (omega arith))

behind_below : (words : Words) → length (after_first is_end words) ≤ length words
behind_below words = omega (arith, length-drop {A = List ℕ})

section_below : (words : Words) → Below (length words) (section_at words)
unfolding section_at
section_below words =
    below_bind (omega arith) (keyword_below (codes "LAYER") words) (λ start less.
    below_bind (omega arith) (name_below start.1) (λ name fewer.
    let behind = behind_below name.1 in
    below_bind (omega arith) (name_below (after_first is_end name.1)) (λ end least.
    below_if (not (at_semicolon name.1) && bytes_eq end.0 name.0)
    (below_some _ end.1 least)
    (below_none (length words)))))

form_of_below : (library : LibraryModel) (deck : RawDeckModel) (words : Words) (found : Option (SectionModel × Words)) → Below (length words) found
    → Below (length words) (form_of library deck words found)
form_of_below library deck words None below = word_form_below deck words
form_of_below library deck words (Some section) below =
    below_ask (with_section library deck section.0) (λ next. below_some next section.1 (below.left section.0 section.1 refl))

form_shortens : (library : LibraryModel) → Shortens (form_at library)
unfolding form_at
form_shortens library deck words = form_of_below library deck words (section_at words) (section_below words)

pub form_shorter : (library : LibraryModel) (deck next : RawDeckModel) (words rest : Words) → form_at library deck words ≡ Some (next, rest)
    → length rest < length words
form_shorter library deck next words rest said = (form_shortens library deck words).left next rest said

-- one more form
pub forms_on : (library : LibraryModel) (deck next : RawDeckModel) (words rest : Words) → (words ≡ [] → ⊥) → form_at library deck words ≡ Some (next, rest)
    → until at_no_word (form_at library) deck words ≡ until at_no_word (form_at library) next rest
forms_on library deck next [] rest some said = absurd (some refl)
forms_on library deck next (word ∷ words) rest some said =
    loops.goes_on at_no_word (form_at library) (form_shortens library) deck next (word ∷ words) rest refl said

-- no words are left
pub forms_end : (library : LibraryModel) (deck : RawDeckModel) (words : Words) → words ≡ []
    → until at_no_word (form_at library) deck words ≡ Some (deck, words)
forms_end library deck words none = loops.ends at_no_word (form_at library) deck words (rw none refl)

-- a number is none
pub forms_fail : (library : LibraryModel) (deck : RawDeckModel) (words : Words) → (words ≡ [] → ⊥) → form_at library deck words ≡ None
    → until at_no_word (form_at library) deck words ≡ None
forms_fail library deck [] some said = absurd (some refl)
forms_fail library deck (word ∷ words) some said = loops.fails at_no_word (form_at library) deck (word ∷ words) refl said
