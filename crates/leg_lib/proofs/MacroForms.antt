-- Macros and their parts: each takes a word at least, and what their loop keeps.
use Rattle.std.proofs.Common.{◌≡◌, ℕ, ◌<◌, Bool, true, false, ◌||◌, if◌then◌else◌, ◌++◌, List, [], ◌∷◌, length, map, Option, None, Some, is_none, codes, refl, ◌∙◌, arith}
use Rattle.std.specs.List.{list_any, list_all}
use Rattle.std.proofs.Math.Bool.{or_assoc, or-false}
use Rattle.leg_lex.specs.Words.{Words, is_keyword, is_word, is_at, next_at, keyword_at, word_at, end_at}
use Rattle.leg_lex.specs.Until.{until}
use Rattle.leg_lex.specs.Statements.{at_end}
use Rattle.leg_lex.specs.NameLookup.{place_of}
use Rattle.leg_lex.proofs.Parts.{made_is, rest_is}
use Rattle.leg_lex.proofs.Until as loops
use Rattle.leg_lex.proofs.Until.{Below, Shortens, below_none, below_some, below_bind, below_ask, below_if, until_below}
use Rattle.leg_lex.proofs.Shorter.{keyword_below, name_below, end_below, end_of_below}
use Rattle.leg_lex.proofs.Statements.{statement_below}
use Rattle.leg_lex.proofs.ReadPast.{past_below}
use Rattle.leg_lib_records.specs.Records.{RawLibraryModel, raw_master_names}
use Rattle.leg_grammar.specs.declared.profile.Profile.{Profile}
use Rattle.leg_grammar.specs.Lef.Macro.{MacroParts, no_macro_parts, macro_pin, macro_obstruction, macro_density, macro_timing, macro_statement, macro_part, symmetry_in, macro_said, macro_at, with_master}
use Rattle.leg_lib.proofs.DrawnShapes.{geometry_below}
use Rattle.leg_lib.proofs.Pins.{pin_below}

macro_pin_below : (profile : Profile) (library : RawLibraryModel) (parts : MacroParts) (words : Words)
    → Below (length words) (macro_pin profile library parts words)
unfolding macro_pin
macro_pin_below profile library parts words =
    below_bind (omega arith) (pin_below profile library words) (λ pin less.
    below_if (is_none (place_of pin.0.name (map (λ p. p.name) parts.pins)))
    (below_some (record parts { pins = parts.pins ++ pin.0 ∷ [] }) pin.1 less)
    (below_none (length words)))

macro_obstruction_below : (profile : Profile) (library : RawLibraryModel) (parts : MacroParts) (words : Words)
    → Below (length words) (macro_obstruction profile library parts words)
unfolding macro_obstruction
macro_obstruction_below profile library parts words =
    below_bind (omega arith) (keyword_below (codes "OBS") words) (λ start less.
    below_bind (omega arith) (geometry_below profile library start.1) (λ shapes no_more.
    below_bind (omega arith) (keyword_below (codes "END") shapes.1) (λ end last.
    below_some (record parts { obstructions = parts.obstructions ++ shapes.0 }) end.1 last)))

macro_density_below : (parts : MacroParts) (words : Words) → Below (length words) (macro_density parts words)
unfolding macro_density
macro_density_below parts words =
    below_bind (omega arith) (keyword_below (codes "DENSITY") words) (λ start less.
    below_bind (omega arith) (past_below (keyword_at (codes "END")) (keyword_below (codes "END")) start.1) (λ end last.
    below_some parts end.1 last))

macro_timing_below : (parts : MacroParts) (words : Words) → Below (length words) (macro_timing parts words)
unfolding macro_timing
macro_timing_below parts words =
    below_bind (omega arith) (keyword_below (codes "TIMING") words) (λ start less.
    below_bind (omega arith) (past_below (end_at (codes "TIMING")) (end_below (codes "TIMING")) start.1) (λ end last.
    below_some parts end.1 last))

macro_statement_below : (parts : MacroParts) (words : Words) → Below (length words) (macro_statement parts words)
unfolding macro_statement
macro_statement_below parts words =
    below_bind (omega arith) (statement_below words) (λ statement less.
    below_some (record parts { statements = parts.statements ++ statement.0 ∷ [] }) statement.1 less)

pub macro_part_shortens : (profile : Profile) (library : RawLibraryModel) → Shortens (macro_part profile library)
unfolding macro_part
macro_part_shortens profile library parts words =
    below_if (is_at (codes "PIN") words) (macro_pin_below profile library parts words)
    (below_if (is_at (codes "OBS") words) (macro_obstruction_below profile library parts words)
    (below_if (is_at (codes "DENSITY") words) (macro_density_below parts words)
    (below_if (is_at (codes "TIMING") words) (macro_timing_below parts words)
    (macro_statement_below parts words))))

pub macro_part_shorter : (profile : Profile) (library : RawLibraryModel) (parts more : MacroParts) (words rest : Words)
    → macro_part profile library parts words ≡ Some (more, rest)
    → length rest < length words
macro_part_shorter profile library parts more words rest said = (macro_part_shortens profile library parts words).left more rest said

-- one more part
pub macro_parts_on : (profile : Profile) (library : RawLibraryModel) (parts more : MacroParts) (words rest : Words)
    → macro_part profile library parts words ≡ Some (more, rest) → is_at (codes "END") words ≡ false
    → until at_end (macro_part profile library) parts words ≡ until at_end (macro_part profile library) more rest
macro_parts_on profile library parts more words rest said goes =
    loops.goes_on at_end (macro_part profile library) (macro_part_shortens profile library) parts more words rest goes said

-- no more parts
pub macro_parts_end : (profile : Profile) (library : RawLibraryModel) (parts : MacroParts) (words : Words)
    → is_at (codes "END") words ≡ true → until at_end (macro_part profile library) parts words ≡ Some (parts, words)
macro_parts_end profile library parts words stops = loops.ends at_end (macro_part profile library) parts words stops

-- what stands there is no part
pub macro_parts_fail : (profile : Profile) (library : RawLibraryModel) (parts : MacroParts) (words : Words)
    → macro_part profile library parts words ≡ None → is_at (codes "END") words ≡ false → until at_end (macro_part profile library) parts words ≡ None
macro_parts_fail profile library parts words said goes = loops.fails at_end (macro_part profile library) parts words goes said

pub macro_below : (profile : Profile) (library : RawLibraryModel) (words : Words) → Below (length words) (macro_at profile library words)
unfolding macro_at
macro_below profile library words =
    below_bind (omega arith) (keyword_below (codes "MACRO") words) (λ start less.
    below_bind (omega arith) (name_below start.1) (λ name fewer.
    below_bind (omega arith) (until_below at_end (macro_part profile library) (macro_part_shortens profile library) no_macro_parts name.1) (λ parts no_more.
    below_ask (macro_said library parts.0.statements) (λ said.
    below_bind (omega arith) (end_of_below name.0 parts.1) (λ end last.
    below_some (record {
      name = name.0;
      size = said.size;
      origin = said.origin;
      y_symmetric = said.y_symmetric;
      site = said.site;
      pins = parts.0.pins;
      obstructions = parts.0.obstructions;
    }) end.1 last)))))

pub with_master_below : (profile : Profile) (library : RawLibraryModel) (words : Words) → Below (length words) (with_master profile library words)
unfolding with_master
with_master_below profile library words =
    below_bind (omega arith) (macro_below profile library words) (λ master less.
    below_if (is_none (place_of master.0.name (raw_master_names library)))
    (below_some (record library { masters = library.masters ++ master.0 ∷ [] }) master.1 less)
    (below_none (length words)))

-- a name or a quoted word stands first
record Taken (words : Words) (word : List ℕ) (rest : Words) : Type 0 where
  is : words ≡ word ∷ rest
  a_word : is_word word ≡ true

word_taken : (words : Words) (word : List ℕ) (rest : Words) → word_at words ≡ Some (word, rest) → Taken words word rest
unfolding word_at next_at
word_taken [] word rest said = absurd (let e : ⊥ = cc in e)
word_taken (first ∷ words) word rest said = by (is_word first) refl where
  by : (test : Bool) → is_word first ≡ test → Taken (first ∷ words) word rest
  by false is = absurd (let e : ⊥ = cc (rw is at said) in e)
  by true is =
      let same : ◌≡◌ {A = Option (List ℕ × Words)} (Some (first, words)) (Some (word, rest)) = rw is at said in
      let named : first ≡ word = made_is first word words rest same in
      record { is = rw (named, rest_is first word words rest same) refl; a_word = rw (← named) is }

no_word_taken : (first : List ℕ) (words : Words) → word_at (first ∷ words) ≡ None → is_word first ≡ false
unfolding word_at next_at
no_word_taken first words said = by (is_word first) refl where
  by : (test : Bool) → is_word first ≡ test → is_word first ≡ false
  by false is = is
  by true is = absurd (let e : ⊥ = cc (rw is at said) in e)

-- whether Y stands among these words, each a name or a quoted word, or was found before them
abbrev pub with_y : Bool → Words → Option Bool
with_y found words =
    if list_all is_word words then Some (found || list_any (is_keyword (codes "Y")) words) else None

-- one more word
pub symmetry_on : (found : Bool) (words : Words) (word : List ℕ) (rest : Words)
    → word_at words ≡ Some (word, rest) → with_y found words ≡ with_y (found || is_keyword (codes "Y") word) rest
symmetry_on found words word rest said =
    let taken = word_taken words word rest said in
    rw (taken.is, taken.a_word, or_assoc found (is_keyword (codes "Y") word) (list_any (is_keyword (codes "Y")) rest)) refl

-- no word is left
pub symmetry_ends : (found : Bool) (words : Words) → words ≡ [] → with_y found words ≡ Some found
symmetry_ends found words none = rw (none, or-false found) refl

-- no name or quoted word stands there
pub symmetry_fails : (found : Bool) (words : Words) → (words ≡ [] → ⊥) → word_at words ≡ None → with_y found words ≡ None
symmetry_fails found [] some said = absurd (some refl)
symmetry_fails found (word ∷ words) some said = rw (no_word_taken word words said) refl

-- what a SYMMETRY says, whose first word is a name or a quoted word
pub symmetry_said : (statement start : Words) (nothing : Unit {0}) (word : List ℕ) (rest : Words) (said : Option Bool)
    → keyword_at (codes "SYMMETRY") statement ≡ Some (nothing, start) → word_at start ≡ Some (word, rest)
    → (if list_all is_word start then Some (list_any (is_keyword (codes "Y")) start) else None) ≡ said
    → symmetry_in statement ≡ said
unfolding symmetry_in
symmetry_said statement start nothing word rest said begins first is =
    let taken = word_taken start word rest first in
    let here : symmetry_in statement ≡ with_y false start = rw (begins, first, taken.is, taken.a_word) refl in
    here ∙ is
