-- Names, compared as bytes.
use Rattle.std.specs.Prelude.{◌≡◌, ℕ, suc, ◌<◌, if◌then◌else◌, List, [], ◌∷◌, length, get_or, Option, None, Some, option_map}
use Rattle.std.specs.Str.{bytes_eq}

-- where the name comes first among the names, if it is there
abbrev pub place_of : List ℕ → List (List ℕ) → Option ℕ
place_of name [] = None
place_of name (first ∷ names) = if bytes_eq name first then Some 0 else option_map suc (place_of name names)

-- no two of the names are the same: each is found at its own place
abbrev pub AreApart : List (List ℕ) → Type 0
AreApart names = (i : ℕ) → i < length names → place_of (get_or names i []) names ≡ Some i
