-- A section is read as its entries, where each is read behind those before it.
use Rattle.std.proofs.Common.{◌≡◌, ℕ, ◌≤◌, true, false, pos, List, [], ◌∷◌, ◌++◌, All, length, map, Option, Some, codes, refl, ap, ◌∙◌}
use Rattle.std.specs.Char.{to_ascii_lowercase}
use Rattle.std.specs.List.{flat_map}
use Rattle.std.proofs.lemmas.List.{append_assoc}
use Rattle.leg_lex.specs.declared.limits.TheConstants.{NUMBER_LIMIT}
use Rattle.leg_lex.specs.Words.{Words, is_name, is_keyword, next_at, keyword_at, mark_at, end_at}
use Rattle.leg_lex.specs.Until.{until}
use Rattle.leg_lex.specs.Statements.{at_end}
use Rattle.leg_lex.proofs.Until.{Shortens}
use Rattle.leg_lex.proofs.NameLookup.{name_itself}
use Rattle.leg_output.specs.Words.{stays_one, line}
use Rattle.leg_print_words.proofs.Lines.{Lines, lines_nil, lines_append, lines_each, lines_of_words}
use Rattle.leg_grammar.specs.Def.Section.{section_start, section_at}
use Rattle.leg_output.specs.Text.Sections.{section_start_words, end_words, section_text}
use Rattle.leg_print_laws.proofs.FreeWords.{IsFree, free_name, free_number, free_nil, free_cons}
use Rattle.leg_print_laws.proofs.Again.{all_again}
use Rattle.leg_print_laws.proofs.Points.{number_again}
use Rattle.leg_print_laws.specs.Forms.{DenotesForm}
use Rattle.leg_print_laws.proofs.PrintableWords.{said_printable, line_says}

-- the words of a section
abbrev pub section_words : {X : Type 0} → List ℕ → (X → Words) → List X → Words
section_words keyword words [] = []
section_words keyword words (x ∷ xs) =
    section_start_words keyword (length (x ∷ xs)) ++ flat_map words (x ∷ xs) ++ end_words keyword

start_again : (keyword : List ℕ) (count : ℕ) (rest : Words) → is_keyword keyword keyword ≡ true → count ≤ NUMBER_LIMIT
    → section_start keyword (section_start_words keyword count ++ rest) ≡ Some (tt, rest)
unfolding section_start keyword_at mark_at next_at
start_again keyword count rest same few = rw (same, number_again (pos count) _ few) refl

end_again : (keyword : List ℕ) (rest : Words) → is_keyword keyword keyword ≡ true → end_at keyword (end_words keyword ++ rest) ≡ Some (tt, rest)
unfolding end_at keyword_at next_at
end_again keyword rest same = rw same refl

module _ {S X : Type 0} (keyword : List ℕ) (entry : S → Words → Option (S × Words)) (words : X → Words) (made : List X → S) where
  -- each entry is read behind those before it, and isn't the end of the section
  pub record AreRead (xs : List X) : Type 0 where
    pub goes : (x : X) (rest : Words) → at_end (words x ++ rest) ≡ false
    pub read : (before : List X) (x : X) (after : List X) → xs ≡ before ++ (x ∷ after) → (rest : Words)
        → entry (made before) (words x ++ rest) ≡ Some (made (before ++ x ∷ []), rest)

  entries_again : Shortens entry → (xs : List X) (rest : Words) → AreRead xs
      → until at_end entry (made []) (flat_map words xs ++ (end_words keyword ++ rest)) ≡ Some (made xs, end_words keyword ++ rest)
  entries_again shortens xs rest are =
      all_again at_end entry words made (end_words keyword ++ rest) shortens refl [] xs (λ before x after is. record {
        goes = are.goes x _;
        read = are.read before x after is _;
      })

  some_again : is_keyword keyword keyword ≡ true → Shortens entry → (xs : List X) → length xs ≤ NUMBER_LIMIT → AreRead xs → (rest : Words)
      → section_at keyword entry (made []) (section_start_words keyword (length xs) ++ (flat_map words xs ++ (end_words keyword ++ rest))) ≡ Some
      (made xs, rest)
  unfolding section_at
  some_again same shortens xs few are rest =
      rw (start_again keyword (length xs) _ same few, entries_again shortens xs rest are, end_again keyword rest same) refl

  pub section_again : is_keyword keyword keyword ≡ true → Shortens entry → (x : X) (xs : List X) → length (x ∷ xs) ≤ NUMBER_LIMIT → AreRead (x ∷ xs)
      → (rest : Words)
      → section_at keyword entry (made []) (section_words keyword words (x ∷ xs) ++ rest) ≡ Some (made (x ∷ xs), rest)
  section_again same shortens x xs few are rest =
      ap (λ all. section_at keyword entry (made []) all)
      (append_assoc (section_start_words keyword (length (x ∷ xs)) ++ flat_map words (x ∷ xs)) (end_words keyword) rest
      ∙ append_assoc (section_start_words keyword (length (x ∷ xs))) (flat_map words (x ∷ xs)) (end_words keyword ++ rest))
      ∙ some_again same shortens (x ∷ xs) few are rest

-- the lines of a section have its words
pub section_lines : {X : Type 0} (keyword : List ℕ) (entry_text : X → List ℕ) (words : X → Words) (xs : List X) → IsFree keyword → length xs ≤ NUMBER_LIMIT
    → All (λ x. Lines (entry_text x) (words x)) xs → Lines (section_text keyword entry_text xs) (section_words keyword words xs)
section_lines keyword entry_text words [] free few each = lines_nil
section_lines keyword entry_text words (x ∷ xs) free few each =
    lines_append (lines_append
    (lines_of_words (section_start_words keyword (length (x ∷ xs)))
    (said_printable (free_cons free (free_cons (free_number (pos (length (x ∷ xs))) few) free_nil)).inside))
    (lines_each entry_text words (x ∷ xs) each))
    (lines_of_words (end_words keyword) (rw (free.inside.printable) refl))

-- a name is the same keyword as itself
keyword_itself : (keyword : List ℕ) → is_keyword keyword keyword ≡ true
keyword_itself keyword = name_itself (map to_ascii_lowercase keyword)

-- the first line of a section, and its last one
pub start_line : (keyword : List ℕ) (count : ℕ) → is_name keyword ≡ true → stays_one keyword ≡ true → count ≤ NUMBER_LIMIT
    → DenotesForm (section_start keyword) (line (section_start_words keyword count)) tt
start_line keyword count name one few =
    line_says (section_start keyword) (section_start_words keyword count) tt
    (said_printable (free_cons (free_name keyword name one) (free_cons (free_number (pos count) few) free_nil)).inside)
    (λ rest. start_again keyword count rest (keyword_itself keyword) few)

pub end_line : (keyword : List ℕ) → is_name keyword ≡ true → stays_one keyword ≡ true → DenotesForm (end_at keyword) (line (end_words keyword)) tt
end_line keyword name one =
    let free = free_name keyword name one in
    line_says (end_at keyword) (end_words keyword) tt (rw (free.inside.printable) refl) (λ rest. end_again keyword rest (keyword_itself keyword))

pub design_end_line : DenotesForm (end_at (codes "DESIGN")) (line (end_words (codes "DESIGN"))) tt
design_end_line = line_says (end_at (codes "DESIGN")) (end_words (codes "DESIGN")) tt refl (λ rest. end_again (codes "DESIGN") rest refl)
