-- A word of a text: its bytes, and the line that its first byte is on. The first line is line 1.
use Rattle.std.specs.Prelude.{ℕ, List, map}

pub record Word : Type 0 where
  pub text : List ℕ
  pub line : ℕ

-- the words without their lines
abbrev pub texts : List Word → List (List ℕ)
texts words = map (λ w. w.text) words
