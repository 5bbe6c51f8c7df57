-- The words of terminals in order.
use Rattle.std.specs.Prelude.{ℕ, List, All, Contains}
use Rattle.std.specs.Ordering.{nat_cmp, ordering_then}
use Rattle.std.specs.declared.cmp.Ordering.{Ordering}
use Rattle.std.specs.Cmp.Lexicographic.{slice_cmp}
use Rattle.std.specs.Borrow.{Bor}

-- the two words of a terminal
abbrev pub words_now : Bor (List ℕ) × Bor (List ℕ) → List ℕ × List ℕ
words_now words = (words.0.now, words.1.now)

-- the order of two words by their bytes
abbrev pub words_cmp : Bor (List ℕ) × Bor (List ℕ) → Bor (List ℕ) × Bor (List ℕ) → Ordering
words_cmp a b = ordering_then (slice_cmp nat_cmp a.0.now b.0.now) (slice_cmp nat_cmp a.1.now b.1.now)

-- each of these words is one of the others
pub record AreAmong (list others : List (List ℕ × List ℕ)) : Type 0 where
  pub each : All (Contains others) list
