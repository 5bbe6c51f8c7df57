-- Sections (LEF/DEF 5.8, "DEF Syntax"; that one without entries is left out is lefdef's own rule).
use Rattle.std.specs.Prelude.{ℕ, List, [], ◌∷◌, ◌++◌, length, codes, decimal}
use Rattle.std.specs.List.{flat_map}
use Rattle.leg_lex.specs.Words.{Words}
use Rattle.leg_output.specs.Words.{line}

-- KEYWORD n ;
abbrev pub section_start_words : List ℕ → ℕ → Words
section_start_words keyword count = keyword ∷ decimal count ∷ codes ";" ∷ []

-- END KEYWORD
abbrev pub end_words : List ℕ → Words
end_words keyword = codes "END" ∷ keyword ∷ []

-- KEYWORD n ; entries END KEYWORD, where there are entries, n of them
abbrev pub section_text : {X : Type 0} → List ℕ → (X → List ℕ) → List X → List ℕ
section_text keyword entry [] = []
section_text keyword entry (x ∷ xs) =
    line (section_start_words keyword (length (x ∷ xs))) ++ flat_map entry (x ∷ xs) ++ line (end_words keyword)
