-- Bands, in which items wait for later ones. Items and bands go by their numbers.
use Rattle.std.specs.Prelude.{◌≡◌, ℕ, zero, suc, ◌+◌, ◌-◌, ◌≤◌, ◌<◌, Bool, true, ◌&&◌, nat_le, List, [], ◌∷◌, ◌++◌, length, filter, sum_by, slice_index, slice_index_or, Contains}
use Rattle.leg_geom.specs.Plane.{RectModel}
use Rattle.leg_sweep.specs.declared.band.BandRange.{BandRange}
use Rattle.leg_geom.specs.Pairs.{IsPair}
use Rattle.leg_sweep.specs.Counts.{near_along_x, near_along_both}
use Rattle.leg_sweep.specs.Steps.Sweep.{test_at, AreInReach, CanMeet}

-- the items of a band that wait: those that begin there, and those that are in a lower band too
pub record Waiting : Type 0 where
  pub reach : ℕ
  pub begun : List ℕ
  pub passing : List ℕ

abbrev pub empty_band : ℕ → Waiting
empty_band reach = record { reach = reach; begun = []; passing = [] }

abbrev pub waiting_at : List Waiting → ℕ → Waiting
waiting_at bands k = slice_index_or bands k (empty_band 0)

-- no item waits
abbrev pub AreEmpty : List Waiting → Type 0
AreEmpty bands = (k : ℕ) → waiting_at bands k ≡ empty_band (waiting_at bands k).reach

abbrev pub range_at : List BandRange → ℕ → BandRange
range_at ranges x = slice_index_or ranges x (record { first = 0; last = 0 })

-- in how many bands an item is
abbrev pub entries_at : List BandRange → ℕ → ℕ
entries_at ranges x = (range_at ranges x).last + 1 - (range_at ranges x).first

-- two items are in a common band
abbrev pub share_band : List BandRange → ℕ → ℕ → Bool
share_band ranges x y =
    nat_le (range_at ranges x).first (range_at ranges y).last && nat_le (range_at ranges y).first (range_at ranges x).last

-- the reach of the bands of an item
abbrev pub reach_at : List BandRange → List Waiting → ℕ → ℕ
reach_at ranges bands x = (waiting_at bands (range_at ranges x).first).reach

-- two items are in a common band, and their x gap is within its reach
abbrev pub near_in_band : List RectModel → List BandRange → List Waiting → ℕ → ℕ → Bool
near_in_band rects ranges bands x y = share_band ranges x y && test_at (near_along_x (reach_at ranges bands x)) rects x y

-- two items are in a common band, and both gaps are within its reach
abbrev pub near_both_in_band : List RectModel → List BandRange → List Waiting → ℕ → ℕ → Bool
near_both_in_band rects ranges bands x y = share_band ranges x y && test_at (near_along_both (reach_at ranges bands x)) rects x y

-- Each item is in bands of one reach. Two items for which the rule holds are in a common band, whose reach both gaps are within.
pub record AreBandRanges {Item : Type 0} (Holds : Item → Item → Type 0) (rect_of : Item → RectModel) (items : List Item) (ranges : List BandRange)
    (bands : List Waiting) : Type 0 where
  pub count : length ranges ≡ length items
  pub upward : (x : ℕ) → x < length items → (range_at ranges x).first ≤ (range_at ranges x).last
  pub there : (x : ℕ) → x < length items → (range_at ranges x).last < length bands
  pub one_reach : (x k : ℕ) → x < length items → (range_at ranges x).first ≤ k → k ≤ (range_at ranges x).last
      → (waiting_at bands k).reach ≡ reach_at ranges bands x
  pub meet : (p : ℕ × ℕ) → IsPair Holds items p → ((range_at ranges p.0).first ≤ (range_at ranges p.1).last)
      × ((range_at ranges p.1).first ≤ (range_at ranges p.0).last)
  pub in_reach : (x y : ℕ) → AreInReach Holds rect_of items (reach_at ranges bands x) x y

-- what waits in a band after a new item began there
abbrev pub after_begin : (ℕ → Bool) → ℕ → Waiting → Waiting
after_begin near new band = record { reach = band.reach; begun = filter near band.begun ++ new ∷ []; passing = filter near band.passing }

-- what waits in a band after a new item came there from below
abbrev pub after_pass : (ℕ → Bool) → ℕ → Waiting → Waiting
after_pass near new band = record { reach = band.reach; begun = filter near band.begun; passing = band.passing ++ new ∷ [] }

-- a new item visited the bands from the first to the last
pub record AreVisited (near : ℕ → Bool) (first last new : ℕ) (before after : List Waiting) : Type 0 where
  pub count : length after ≡ length before
  pub begun : waiting_at after first ≡ after_begin near new (waiting_at before first)
  pub passed : (k : ℕ) → first < k → k ≤ last → waiting_at after k ≡ after_pass near new (waiting_at before k)
  pub below : (k : ℕ) → k < first → waiting_at after k ≡ waiting_at before k
  pub above : (k : ℕ) → last < k → waiting_at after k ≡ waiting_at before k

-- the items that a new one meets in its first band, and in this many bands after it
abbrev pub met : List Waiting → ℕ → ℕ → List ℕ
met bands first zero = (waiting_at bands first).begun ++ (waiting_at bands first).passing
met bands first (suc count) = met bands first count ++ (waiting_at bands (first + suc count)).begun

-- how many items wait, each as often as it waits
abbrev pub waiting_count : List Waiting → ℕ
waiting_count bands = sum_by (λ band. length band.begun + length band.passing) bands

-- A new item can visit the bands from the first to the last: it can meet those that wait there, none of which it would meet twice.
pub record CanVisit {Item : Type 0} (Holds : Item → Item → Type 0) (rect_of : Item → RectModel) (items : List Item) (bands : List Waiting)
    (first last new : ℕ) : Type 0 where
  pub upward : first ≤ last
  pub there : last < length bands
  pub one_reach : (k : ℕ) → first ≤ k → k ≤ last → (waiting_at bands k).reach ≡ (waiting_at bands first).reach
  pub begun : (k : ℕ) → first ≤ k → k ≤ last → CanMeet Holds rect_of items (waiting_at bands first).reach (waiting_at bands k).begun new
  pub passing : CanMeet Holds rect_of items (waiting_at bands first).reach (waiting_at bands first).passing new
  pub apart : (j k x : ℕ) → first ≤ j → j < k → k ≤ last → Contains (waiting_at bands j).begun x → Contains (waiting_at bands k).begun x → ⊥
  pub apart_passing : (k x : ℕ) → first ≤ k → k ≤ last → Contains (waiting_at bands k).begun x → Contains (waiting_at bands first).passing x → ⊥

-- Items that are in a common band lie on one layer, whose reach the bands have.
pub record AreByLayer (layers : List ℕ) (reach_of : ℕ → ℕ) (ranges : List BandRange) (bands : List Waiting) : Type 0 where
  pub apart : (x y : ℕ) → x < length layers → y < length layers → share_band ranges x y ≡ true → slice_index layers x ≡ slice_index layers y
  pub reach : (x : ℕ) → x < length layers → reach_at ranges bands x ≡ reach_of (slice_index layers x)
