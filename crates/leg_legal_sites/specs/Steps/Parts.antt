-- The free stretches of a row in parts, one after the other.
use Rattle.std.specs.Prelude.{◌≡◌, ◌↔◌, ◌⊎◌, ℕ, ◌+◌, ◌-◌, ◌*◌, ◌<◌, ◌≤◌, Bool, false, true, List, [], ◌∷◌, ◌++◌, length, Option, None, Some, slice_get}
use Rattle.leg_legal_sites.specs.declared.stretch.Stretch.{Stretch}
use Rattle.leg_legal_sites.specs.declared.ends.Ends.{Ends}
use Rattle.leg_legal_sites.specs.declared.part_groups.TheConstants.{GROUP}
use Rattle.leg_legal_sites.specs.Steps.Stretches.{IsFreeSite, AreFreeSites, AreFreeStretches}
use Rattle.leg_legal_sites.specs.Steps.Nearest.{FitsFrom, FitsUpTo}

-- the stretches of all parts
abbrev pub all_of : List (List Stretch) → List Stretch
all_of [] = []
all_of (part ∷ parts) = part ++ all_of parts

-- each part's free sites lie before those of later ones, with a site that isn't free between them
abbrev pub AreInRow : List (List Stretch) → Type 0
AreInRow parts =
    (i j : ℕ) (p q : List Stretch) (k m : ℕ) → i < j → slice_get parts i ≡ Some p → slice_get parts j ≡ Some q
    → IsFreeSite p k → IsFreeSite q m → k + 1 < m

-- no more consecutive sites than this are free
abbrev pub AreNoMoreThan : ℕ → List Stretch → Type 0
AreNoMoreThan most free = (many first : ℕ) → AreFreeSites free many first → many ≤ most

-- the stretches are those of a row, and none is longer than this
pub record AreMeasured (most : ℕ) (free : List Stretch) : Type 0 where
  pub are : AreFreeStretches free
  pub longest : AreNoMoreThan most free

-- the first and the last free site, and how many are free side by side at most
pub record IsPartSpan (free : List Stretch) (ends : Ends) : Type 0 where
  pub first : IsFreeSite free ends.from
  pub last : IsFreeSite free (ends.end - 1)
  pub some : 1 ≤ ends.end
  pub above : (k : ℕ) → IsFreeSite free k → ends.from ≤ k
  pub below : (k : ℕ) → IsFreeSite free k → k < ends.end
  pub longest : AreNoMoreThan ends.longest free

-- those, or that no site is free
abbrev pub HasSpan : List Stretch → Option Ends → Type 0
HasSpan free None = (k : ℕ) → ¬ IsFreeSite free k
HasSpan free (Some ends) = IsPartSpan free ends

-- the sites that are free once those from one number up to another are taken
abbrev pub LosesSites : List Stretch → ℕ → ℕ → List Stretch → Type 0
LosesSites old from end new = (k : ℕ) → IsFreeSite new k ↔ (IsFreeSite old k × ((k < from) ⊎ (end ≤ k)))

-- no more is free than was
abbrev pub AreFewer : List Stretch → List Stretch → Type 0
AreFewer old new = (k : ℕ) → IsFreeSite new k → IsFreeSite old k

-- parts before a number have lost these sites, and the others are as they were
pub record AreLostUpTo (from end i : ℕ) (old new : List (List Stretch)) : Type 0 where
  pub count : length new ≡ length old
  pub same : (n : ℕ) → i ≤ n → slice_get new n ≡ slice_get old n
  pub each : (n : ℕ) (p : List Stretch) → n < i → slice_get old n ≡ Some p → (q : List Stretch) × (slice_get new n ≡ Some q) × LosesSites p from end q

-- no part has more free sites than before
abbrev pub AreAllFewer : List (List Stretch) → List (List Stretch) → Type 0
AreAllFewer old new = (n : ℕ) (q : List Stretch) → slice_get new n ≡ Some q → (p : List Stretch) × (slice_get old n ≡ Some p) × AreFewer p q

-- a site is free, and each that is free lies before this one
pub record DoEndBy (free : List Stretch) (site : ℕ) : Type 0 where
  pub one : ℕ
  pub there : IsFreeSite free one
  pub before : (k : ℕ) → IsFreeSite free k → k < site

-- a site is free, and each that is free lies beyond this one
pub record DoBeginBeyond (free : List Stretch) (site : ℕ) : Type 0 where
  pub one : ℕ
  pub there : IsFreeSite free one
  pub beyond : (k : ℕ) → IsFreeSite free k → site < k

-- the free sites of each part before a place lie before this one
abbrev pub LieBefore : List (List Stretch) → ℕ → ℕ → Type 0
LieBefore parts place site = (n k : ℕ) (p : List Stretch) → n < place → slice_get parts n ≡ Some p → IsFreeSite p k → k < site

-- the free sites of each part from a place on lie beyond this one
abbrev pub LieBeyond : List (List Stretch) → ℕ → ℕ → Type 0
LieBeyond parts place site = (n k : ℕ) (p : List Stretch) → place ≤ n → slice_get parts n ≡ Some p → IsFreeSite p k → site < k

-- no part from one place up to another has more free sites side by side than this
abbrev pub AreNoLonger : List (List Stretch) → ℕ → ℕ → ℕ → Type 0
AreNoLonger parts from end most = (n : ℕ) (p : List Stretch) → from ≤ n → n < end → slice_get parts n ≡ Some p → AreNoMoreThan most p

-- there is a number for each of some groups of parts, and no part of the group has more free sites side by side
pub record AreGroups (parts : List (List Stretch)) (groups : List ℕ) : Type 0 where
  pub count : GROUP * length groups ≤ length parts
  pub each : (group most : ℕ) → slice_get groups group ≡ Some most → AreNoLonger parts (GROUP * group) (GROUP * group + GROUP) most

-- the parts of a row, and their groups
pub record AreParts (parts : List (List Stretch)) (groups : List ℕ) : Type 0 where
  pub in_row : AreInRow parts
  pub grouped : AreGroups parts groups

-- a group begins at this place, and each of its parts has fewer free sites side by side than so many
pub record IsShort (groups : List ℕ) (place many : ℕ) : Type 0 where
  pub group : ℕ
  pub begins : place ≡ GROUP * group
  pub most : ℕ
  pub there : slice_get groups group ≡ Some most
  pub fewer : most < many

-- the same sites are free
abbrev pub HaveSameSites : List Stretch → List Stretch → Type 0
HaveSameSites old new = (k : ℕ) → IsFreeSite new k ↔ IsFreeSite old k

-- a list has a stretch
abbrev pub has_any : List Stretch → Bool
has_any [] = false
has_any (s ∷ free) = true

-- the first free site, or that none is free
abbrev pub HasFirst : List Stretch → Option Ends → Type 0
HasFirst free None = (k : ℕ) → ¬ IsFreeSite free k
HasFirst free (Some ends) = IsFreeSite free ends.from × ((k : ℕ) → IsFreeSite free k → ends.from ≤ k)

-- the last free site lies before the end
pub record IsLastBefore (free : List Stretch) (end : ℕ) : Type 0 where
  pub some : 1 ≤ end
  pub last : IsFreeSite free (end - 1)
  pub below : (k : ℕ) → IsFreeSite free k → k < end

-- that, or that none is free
abbrev pub HasLast : List Stretch → Option Ends → Type 0
HasLast free None = (k : ℕ) → ¬ IsFreeSite free k
HasLast free (Some ends) = IsLastBefore free ends.end

-- no site is free in a part from one place up to another
abbrev pub AreNoneFree : List (List Stretch) → ℕ → ℕ → Type 0
AreNoneFree parts from end = (n k : ℕ) (p : List Stretch) → from ≤ n → n < end → slice_get parts n ≡ Some p → ¬ IsFreeSite p k

-- no part before a number has so many free sites side by side from the least on
abbrev pub NoneFitsBefore : List (List Stretch) → ℕ → ℕ → ℕ → Type 0
NoneFitsBefore parts many least i = (n first : ℕ) (p : List Stretch) → n < i → slice_get parts n ≡ Some p → ¬ FitsFrom p many least first

-- no part from a number on has so many up to the most
abbrev pub NoneFitsFrom : List (List Stretch) → ℕ → ℕ → ℕ → Type 0
NoneFitsFrom parts many most i = (n first : ℕ) (p : List Stretch) → i ≤ n → slice_get parts n ≡ Some p → ¬ FitsUpTo p many most first
