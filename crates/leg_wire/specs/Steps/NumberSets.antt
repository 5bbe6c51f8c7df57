-- Sets of the numbers below a size, no two of which share a number, as the list of the least number of each number's set.
use Rattle.std.specs.Prelude.{◌≡◌, ◌≢◌, ◌≤◌, ◌<◌, ◌⊎◌, ℕ, List, [], ◌∷◌, ◌++◌, length, get_or, Some, slice_get, slice_index, slice_index_or}
use Rattle.leg_wire.specs.Steps.Kinds.{AreMembers}

-- both numbers are in the set with this least number
pub record AreTogether (sets : List ℕ) (a b : ℕ) : Type 0 where
  pub least : ℕ
  pub of_a : slice_get sets a ≡ Some least
  pub of_b : slice_get sets b ≡ Some least

-- The sets of two numbers are made one: together are those that were so before, and those that the two connect.
pub record AreUnited (a b : ℕ) (before after : List ℕ) : Type 0 where
  pub count : length after ≡ length before
  pub both : AreTogether after a b
  pub kept : (x y : ℕ) → AreTogether before x y → AreTogether after x y
  pub no_more : (x y : ℕ) → AreTogether after x y
      → AreTogether before x y ⊎ ((AreTogether before x a × AreTogether before b y) ⊎ (AreTogether before x b × AreTogether before a y))

-- The sets are kept as trees: a number's parent is in its set and isn't above it, and the least one is its own parent.
abbrev pub AreParents : List ℕ → Type 0
AreParents parents = (k : ℕ) → k < length parents → slice_index parents k ≤ k

-- the roots that are known, and those of the numbers after them, whose parents these are: a parent's root, or the number itself
abbrev pub roots_after : List ℕ → List ℕ → List ℕ
roots_after roots [] = roots
roots_after roots (parent ∷ parents) = roots_after (roots ++ slice_index_or roots parent parent ∷ []) parents

-- the root of each number's tree, which is the least number of its set
unfoldable pub roots_of : List ℕ → List ℕ
roots_of parents = roots_after [] parents

-- The sets with these two least numbers are made one, whose least number is the lower one.
pub record IsMerged (low high : ℕ) (before after : List ℕ) : Type 0 where
  pub count : length after ≡ length before
  pub moved : (k : ℕ) → slice_get before k ≡ Some high → slice_get after k ≡ Some low
  pub stay : (k least : ℕ) → least ≢ high → slice_get before k ≡ Some least → slice_get after k ≡ Some least

-- for each number that is the least of its set the members of that, each once; the number 0 is one
pub record AreGroups (sets : List ℕ) (lists : List (List ℕ)) : Type 0 where
  pub members : AreMembers sets (length sets) lists
  pub begins : 0 < length sets → slice_get sets 0 ≡ Some 0

-- numbers have come to the list, at its end
pub record HasGrown (before after : List ℕ) : Type 0 where
  pub more : List ℕ
  pub is : after ≡ before ++ more

-- The numbers of both lists are in one, which those of the first begin, or may begin.
pub data IsOneList (first second : List ℕ) (begins : Type 0) (both : List ℕ) : Type 0 where
  behind : both ≡ first ++ second → IsOneList first second begins both
  before : (begins → ⊥) → both ≡ second ++ first → IsOneList first second begins both

-- The members of the set with the higher least number are in the list of the other, and that of the number 0 has only grown.
pub record AreListsMerged (low high : ℕ) (before after : List (List ℕ)) : Type 0 where
  pub count : length after ≡ length before
  pub is_one : IsOneList (get_or before low []) (get_or before high []) (low ≡ 0) (get_or after low [])
  pub none : get_or after high [] ≡ []
  pub others : (k : ℕ) → k ≢ low → k ≢ high → get_or after k [] ≡ get_or before k []
