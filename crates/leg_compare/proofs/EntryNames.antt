-- Names of entries, one after another.
use Rattle.std.proofs.Common.{◌≡◌, ℕ, ◌+◌, ◌<◌, List, [], ◌∷◌, ◌++◌, length, get_or, take, None, Some, sym, ap, ◌∙◌}
use Rattle.std.proofs.lemmas.List.{take_more}
use Rattle.leg_lex.specs.NameLookup.{place_of, AreApart}
use Rattle.leg_lex.proofs.NameLookup.{not_yet_there, place_stands}

-- the next name is not among those before it
pub next_is_new : (names sofar : List (List ℕ)) (i : ℕ) (name : List ℕ) → AreApart names → i < length names → sofar ≡ take i names → name ≡ get_or names i []
    → place_of name sofar ≡ None
next_is_new names sofar i name apart less before is =
    ap (λ n. place_of n sofar) is ∙ ap (place_of (get_or names i [])) before ∙ not_yet_there names i [] apart less

-- and after it they are one more
pub one_more_name : (names sofar after : List (List ℕ)) (i : ℕ) (name : List ℕ) → i < length names → sofar ≡ take i names → name ≡ get_or names i []
    → after ≡ sofar ++ name ∷ [] → after ≡ take (i + 1) names
one_more_name names sofar after i name less before is pushed =
    pushed ∙ ap (λ l. l ++ name ∷ []) before ∙ ap (λ n. take i names ++ n ∷ []) is ∙ sym (take_more names i [] less)

-- a place that is found is within the names
pub found_within : (name : List ℕ) (names : List (List ℕ)) (j : ℕ) → place_of name names ≡ Some j → j < length names
found_within name names j found = (place_stands name names j found).within
