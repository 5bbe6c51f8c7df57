-- What the code's steps on lists of numbers say.
use Rattle.std.specs.Prelude.{◌≡◌, List, [], ◌∷◌, ◌++◌, ℤ}

-- the list ends with the number, behind others
pub record ListEndsWith (numbers : List ℤ) (number : ℤ) : Type 0 where
  pub others : List ℤ
  pub is : numbers ≡ others ++ number ∷ []
