-- A LEF and a DEF in one stream of bytes: the LEF goes up to its END LIBRARY (lefdef's own rule).
use Rattle.std.specs.Prelude.{◌≡◌, ℕ, ◌≤◌, List, ◌++◌, length, codes}

abbrev pub end_library : List ℕ
end_library = codes "END LIBRARY"

-- END LIBRARY appears in the text after these bytes
abbrev pub StandsBehind : List ℕ → List ℕ → Type 0
StandsBehind before text = (after : List ℕ) × (text ≡ before ++ end_library ++ after)

-- END LIBRARY appears in the text
abbrev pub HasEndLibrary : List ℕ → Type 0
HasEndLibrary text = (before : List ℕ) × StandsBehind before text

-- The stream is cut in two, directly after the first END LIBRARY.
pub record IsSplit (stream front back : List ℕ) : Type 0 where
  pub whole : stream ≡ front ++ back
  pub text : List ℕ
  pub ends : front ≡ text ++ end_library
  pub first : (before : List ℕ) → StandsBehind before stream → length text ≤ length before
