-- The values along each axis of the lattice of the tests.
use Rattle.std.specs.Prelude.{ℤ, pos, List, [], ◌∷◌}

-- three values, ten apart
abbrev pub lines : List ℤ
lines = pos 0 ∷ pos 10 ∷ pos 20 ∷ []
