-- LEF texts without the forms that the narrow profile takes in a lesser meaning than the wide one: a nondefault rule, a via of a
-- rule or with a polygon, and, where masks are dropped, a rectangle with a mask (LEF/DEF 5.8, "Nondefault Rule", "Via", "Layer Geometries").
use Rattle.std.specs.Prelude.{◌≡◌, ℕ, Bool, false, ◌&&◌, ◌||◌, List, [], ◌∷◌, All, codes}
use Rattle.leg_lex.specs.Word.{Word, texts}
use Rattle.leg_lex.specs.Words.{Words, is_keyword, is_at}
use Rattle.leg_lex.specs.Statements.{is_semicolon}
use Rattle.leg_lex.specs.Tokens.{AreTokens}
use Rattle.leg_grammar.specs.declared.profile.Profile.{Profile}
use Rattle.leg_grammar.specs.declared.profile.Profile.TheVariants.{Narrow, Wide}
use Rattle.leg_grammar.specs.Mask.{drops_masks}

-- words with which such a form begins wherever they stand
abbrev pub is_wider_word : List ℕ → Bool
is_wider_word word = is_keyword (codes "POLYGON") word || is_keyword (codes "NONDEFAULTRULE") word

-- one word comes next, and then a semicolon: so a via names its rule, and so no rule begins
abbrev pub is_one_word : Words → Bool
is_one_word [] = false
is_one_word (word ∷ []) = false
is_one_word (word ∷ next ∷ words) = is_semicolon next

-- such a form begins with the word and those behind it
abbrev pub begins_wider : Profile → List ℕ → Words → Bool
begins_wider Narrow word words = false
begins_wider (Wide masks soft) word words =
    is_wider_word word || (is_keyword (codes "VIARULE") word && is_one_word words)
    || (drops_masks (Wide masks soft) && is_keyword (codes "RECT") word && is_at (codes "MASK") words)

-- one begins somewhere
abbrev pub has_wider : Profile → Words → Bool
has_wider profile [] = false
has_wider profile (word ∷ words) = begins_wider profile word words || has_wider profile words

-- the text has none of them
pub record HasNoWider (profile : Profile) (lef : List ℕ) : Type 0 where
  pub none : (words : List Word) → AreTokens lef words → has_wider profile (texts words) ≡ false

abbrev pub HaveNoWider : Profile → List (List ℕ) → Type 0
HaveNoWider profile lefs = All (HasNoWider profile) lefs
