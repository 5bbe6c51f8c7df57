-- The lines that a text begins with are read as what they say.
use Rattle.std.proofs.Common.{◌≡◌, ℕ, ◌≤◌, pos, true, int_lt, nat_le, List, ◌∷◌, ◌++◌, Some, codes, decimal, refl, arith}
use Rattle.std.specs.List.{list_all}
use Rattle.std.proofs.lemmas.Int.{ints}
use Rattle.std.proofs.lemmas.Bool.Decides.{nat_tests}
use Rattle.leg_lex.specs.declared.limits.TheConstants.{UNITS_LIMIT}
use Rattle.leg_lex.specs.Number.{IsNumber}
use Rattle.leg_lex.specs.Words.{Words, next_at, keyword_at, mark_at, name_at, word_at, is_name, is_word, is_keyword}
use Rattle.leg_lex.specs.Until.{steps}
use Rattle.leg_output.specs.Words.{stays_one, line, is_printable}
use Rattle.leg_geom.specs.Plane.{RectModel}
use Rattle.leg_design_records.specs.WellFormedParts.{IsArea}
use Rattle.leg_grammar.specs.Def.Die.{one_spot, die_at}
use Rattle.leg_grammar.specs.Def.Header.{word_after, design_name_at, microns_at, units_after, units_at}
use Rattle.leg_output.specs.Text.Header.{word_words, units_words, die_words}
use Rattle.leg_print_laws.specs.Forms.{DenotesForm}
use Rattle.leg_print_laws.proofs.FreeWords.{IsFree, free_literal, free_word, free_name, free_number, free_nil, free_cons}
use Rattle.leg_print_laws.proofs.Points.{number_again, spot_again, between_again, corners_free}
use Rattle.leg_print_laws.proofs.PrintableWords.{said_printable, line_says}

-- KEYWORD word ;
pub word_again : (keyword word : List ℕ) (rest : Words) → is_keyword keyword keyword ≡ true → is_word word ≡ true
    → word_after keyword (word_words keyword word ++ rest) ≡ Some (word, rest)
unfolding word_after keyword_at word_at mark_at next_at
word_again keyword word rest same is = rw (same, is) refl

pub word_line : (keyword word : List ℕ) → is_keyword keyword keyword ≡ true → IsFree keyword → is_word word ≡ true → stays_one word ≡ true
    → DenotesForm (word_after keyword) (line (word_words keyword word)) word
word_line keyword word same key is one =
    line_says (word_after keyword) (word_words keyword word) word
    (said_printable (free_cons key (free_cons (free_word word is one) free_nil)).inside) (λ rest. word_again keyword word rest same is)

-- DESIGN name ;
pub name_again : (name : List ℕ) (rest : Words) → is_name name ≡ true → design_name_at (word_words (codes "DESIGN") name ++ rest) ≡ Some (name, rest)
unfolding design_name_at keyword_at name_at mark_at next_at
name_again name rest is = rw is refl

pub name_printable : (name : List ℕ) → is_name name ≡ true → stays_one name ≡ true → list_all is_printable (word_words (codes "DESIGN") name) ≡ true
name_printable name is one =
    said_printable (free_cons (free_literal (codes "DESIGN") refl refl refl) (free_cons (free_name name is one) free_nil)).inside

pub name_line : (name : List ℕ) → is_name name ≡ true → stays_one name ≡ true → DenotesForm design_name_at (line (word_words (codes "DESIGN") name)) name
name_line name is one =
    line_says design_name_at (word_words (codes "DESIGN") name) name (name_printable name is one) (λ rest. name_again name rest is)

-- UNITS DISTANCE MICRONS n ;
units_number : (n : ℕ) → n ≤ UNITS_LIMIT → IsNumber (pos n)
units_number n most = omega arith

above_zero : (n : ℕ) → 1 ≤ n → int_lt (pos 0) (pos n) ≡ true
above_zero n some = grind (arith, ints)

in_limit : (n : ℕ) → n ≤ UNITS_LIMIT → nat_le n UNITS_LIMIT ≡ true
in_limit n most = grind (arith, nat_tests)

pub units_again : (n : ℕ) (rest : Words) → 1 ≤ n → n ≤ UNITS_LIMIT → units_at (units_words n ++ rest) ≡ Some (n, rest)
unfolding units_at microns_at units_after keyword_at mark_at next_at
units_again n rest some most = rw (number_again (pos n) _ (units_number n most), above_zero n some, in_limit n most) refl

pub units_printable : (n : ℕ) → n ≤ UNITS_LIMIT → list_all is_printable (units_words n) ≡ true
units_printable n most =
    said_printable (free_cons (free_literal (codes "UNITS") refl refl refl) (free_cons (free_literal (codes "DISTANCE") refl refl refl)
    (free_cons (free_literal (codes "MICRONS") refl refl refl) (free_cons (free_number (pos n) (units_number n most)) free_nil)))).inside

pub units_line : (n : ℕ) → 1 ≤ n → n ≤ UNITS_LIMIT → DenotesForm units_at (line (units_words n)) n
units_line n some most = line_says units_at (units_words n) n (units_printable n most) (λ rest. units_again n rest some most)

-- DIEAREA ( x1 y1 ) ( x2 y2 ) ;
pub die_again : (die : RectModel) (rest : Words) → IsArea die → die_at (die_words die ++ rest) ≡ Some (die, rest)
unfolding die_at one_spot steps keyword_at mark_at next_at
die_again die rest is =
    rw (
      spot_again (record { x = die.x1; y = die.y1 }) _ (record { x = is.x1; y = is.y1 }),
      spot_again (record { x = die.x2; y = die.y2 }) _ (record { x = is.x2; y = is.y2 }),
      between_again die is.proper,
    ) refl

pub die_printable : (die : RectModel) → IsArea die → list_all is_printable (die_words die) ≡ true
die_printable die is = said_printable (free_cons (free_literal (codes "DIEAREA") refl refl refl) (corners_free die is)).inside

pub die_line : (die : RectModel) → IsArea die → DenotesForm die_at (line (die_words die)) die
die_line die is = line_says die_at (die_words die) die (die_printable die is) (λ rest. die_again die rest is)

-- n ; alone
pub units_after_again : (n : ℕ) (rest : Words) → 1 ≤ n → n ≤ UNITS_LIMIT → units_after (decimal n ∷ codes ";" ∷ rest) ≡ Some (n, rest)
unfolding units_after mark_at next_at
units_after_again n rest some most = rw (number_again (pos n) _ (units_number n most), above_zero n some, in_limit n most) refl
