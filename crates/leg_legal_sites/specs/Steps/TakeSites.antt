-- Stretches of which some are taken away, and what stays of the first and of the last of them put in their place.
use Rattle.std.specs.Prelude.{◌≡◌, ◌⊎◌, ℕ, ◌+◌, ◌-◌, ◌<◌, ◌≤◌, if◌then◌else◌, nat_lt, List, [], ◌∷◌, ◌++◌, length, Some, take, drop, slice_get, slice_set}
use Rattle.leg_legal_sites.specs.declared.stretch.Stretch.{Stretch}

-- the stretches before the first end by a site, and the others beyond it
pub record IsFirstEndBeyond (free : List Stretch) (site first : ℕ) : Type 0 where
  pub within : first ≤ length free
  pub before : (i : ℕ) (s : Stretch) → i < first → slice_get free i ≡ Some s → s.end ≤ site
  pub beyond : (i : ℕ) (s : Stretch) → first ≤ i → slice_get free i ≡ Some s → site < s.end

-- the stretches before the end begin by a site, and the others beyond it
pub record IsFirstStartBeyond (free : List Stretch) (site end : ℕ) : Type 0 where
  pub within : end ≤ length free
  pub before : (i : ℕ) (s : Stretch) → i < end → slice_get free i ≡ Some s → s.from ≤ site
  pub beyond : (i : ℕ) (s : Stretch) → end ≤ i → slice_get free i ≡ Some s → site < s.from

-- The stretches before the first end by the sites that are taken, and the others beyond where those begin. Those before
-- the last begin before the end of the taken sites, and the others not.
pub record IsCutAt (free : List Stretch) (from end first last : ℕ) : Type 0 where
  pub before : (i : ℕ) (s : Stretch) → i < first → slice_get free i ≡ Some s → s.end ≤ from
  pub beyond : (i : ℕ) (s : Stretch) → first ≤ i → slice_get free i ≡ Some s → from < s.end
  pub begun : (i : ℕ) (s : Stretch) → i < last → slice_get free i ≡ Some s → s.from < end
  pub after : (i : ℕ) (s : Stretch) → last ≤ i → slice_get free i ≡ Some s → end ≤ s.from

-- a stretch, if it has a site
abbrev pub if_any : Stretch → List Stretch
if_any s = if nat_lt s.from s.end then s ∷ [] else []

-- two stretches, if they have sites, in place of those from one number up to another
abbrev pub with_rests : ℕ → ℕ → Stretch → Stretch → List Stretch → List Stretch
with_rests first last left right free = take first free ++ (if_any left ++ if_any right) ++ drop last free

-- the first of these, which are taken away, is the left rest now if that has a site; from is the first that isn't a rest
abbrev pub IsPutLeft : List Stretch → ℕ → Stretch → List Stretch → ℕ → Type 0
IsPutLeft old first left new from =
    ((left.from < left.end) × (from ≡ first + 1) × (new ≡ slice_set old first left)) ⊎ ((left.end ≤ left.from) × (from ≡ first) × (new ≡ old))

-- the last of them is the right rest now if that has a site; end is the number up to which none is a rest
abbrev pub IsPutRight : List Stretch → ℕ → Stretch → List Stretch → ℕ → Type 0
IsPutRight old last right new end =
    ((right.from < right.end) × (end ≡ last - 1) × (new ≡ slice_set old (last - 1) right)) ⊎ ((right.end ≤ right.from) × (end ≡ last) × (new ≡ old))
