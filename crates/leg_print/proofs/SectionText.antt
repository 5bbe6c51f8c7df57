-- Texts that a section was added to.
use Rattle.std.proofs.Common.{◌≡◌, ℕ, ◌==◌, ◌≤◌, true, false, List, [], ◌∷◌, ◌++◌, length, map, take, ap, sym, ◌∙◌, refl, arith}
use Rattle.std.specs.List.{flat_map}
use Rattle.std.proofs.lemmas.Bool.Decides.{nat_tests}
use Rattle.std.proofs.lemmas.List.{take_all, length-map}
use Rattle.std.proofs.lemmas.List.Folds.{flat_map-map}
use Rattle.leg_output.specs.Words.{line}
use Rattle.leg_output.specs.Text.Sections.{section_start_words, end_words, section_text}
use Rattle.leg_print.proofs.Appends.{three_parts}

-- without entries there is no section
pub no_section : {X : Type 0} (keyword : List ℕ) (entry : X → List ℕ) (xs : List X) → (length xs == 0) ≡ true → section_text keyword entry xs ≡ []
no_section keyword entry [] is = refl
no_section keyword entry (x ∷ xs) is = absurd (grind (arith, nat_tests))

-- with entries it is its first line, the entries, and its last line
some_section : {X : Type 0} (keyword : List ℕ) (entry : X → List ℕ) (xs : List X) → (length xs == 0) ≡ false
    → section_text keyword entry xs ≡ line (section_start_words keyword (length xs)) ++ flat_map entry xs ++ line (end_words keyword)
some_section keyword entry [] is = absurd (grind (arith, nat_tests))
some_section keyword entry (x ∷ xs) is = refl

-- a section is its first line, the entries up to where a loop ended, and its last line
pub section_pushed : {X : Type 0} (keyword : List ℕ) (entry : X → List ℕ) (xs : List X) (i : ℕ) (start one two all : List ℕ)
    → (length xs == 0) ≡ false → one ≡ start ++ line (section_start_words keyword (length xs)) → two ≡ one ++ flat_map entry (take i xs) → length xs ≤ i
    → all ≡ two ++ line (end_words keyword)
    → all ≡ start ++ section_text keyword entry xs
section_pushed keyword entry xs i start one two all some first second past third =
    three_parts start one two all (line (section_start_words keyword (length xs))) (flat_map entry xs) (line (end_words keyword))
    first (second ∙ ap (λ l. one ++ flat_map entry l) (take_all i xs past)) third
    ∙ ap (λ t. start ++ t) (sym (some_section keyword entry xs some))

-- the section of what elements stand for
pub section_of : {X Y : Type 0} (keyword : List ℕ) (entry : Y → List ℕ) (said : X → Y) (xs : List X)
    → section_text keyword entry (map said xs) ≡ section_text keyword (λ x. entry (said x)) xs
section_of keyword entry said [] = refl
section_of keyword entry said (x ∷ xs) = rw (length-map (x ∷ xs) said, flat_map-map entry said (x ∷ xs)) refl

pub no_section_of : {X Y : Type 0} (keyword : List ℕ) (entry : Y → List ℕ) (said : X → Y) (xs : List X) → (length xs == 0) ≡ true
    → section_text keyword entry (map said xs) ≡ []
no_section_of keyword entry said [] is = refl
no_section_of keyword entry said (x ∷ xs) is = absurd (grind (arith, nat_tests))
