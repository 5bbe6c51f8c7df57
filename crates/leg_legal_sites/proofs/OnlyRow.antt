-- A box is taken from the only row that it meets.
use Rattle.std.proofs.Common.{◌≡◌, ◌≢◌, ◌⊎◌, ℕ, ◌+◌, ◌*◌, ◌-◌, ◌/◌, ◌<◌, ◌≤◌, true, false, ℤ, pos, ◌≤ℤ◌, ◌+ℤ◌, int_le, List, length, get_or, set, Some, slice_get, AllPairs, inl, inr, refl, sym, ap, ◌∙◌, arith, length-set}
use Rattle.std.specs.List.Sorted.{IsPartitionedBy, IsPartitionPoint}
use Rattle.std.proofs.lemmas.Bool.{cases_eq, cases_lt}
use Rattle.std.proofs.lemmas.Int.{ints}
use Rattle.std.proofs.lemmas.Option.{same_Some, slice_get_within, slice_get-get_or, get_or_from_slice_get}
use Rattle.leg_lemmas.proofs.Integers.{le_test, le_from_test}
use Rattle.leg_geom.specs.Plane.{RectModel, IsCoordinate}
use Rattle.leg_lib_records.specs.declared.records.Site.{Site}
use Rattle.leg_design_records.specs.Records.{DesignModel}
use Rattle.leg_design_records.specs.declared.records.Row.{Row}
use Rattle.leg_legal_sites.specs.declared.stretch.Stretch.{Stretch}
use Rattle.leg_legal_sites.specs.declared.bounds.Bounds.{Bounds}
use Rattle.leg_legal_sites.specs.declared.row_keys.RowKey.{RowKey}
use Rattle.leg_legal_sites.specs.Steps.RowOrder.{IsBefore, IsRowOrder}
use Rattle.leg_legal_sites.specs.Steps.FreeLists.{IsRowAt, AreRowsOf}
use Rattle.leg_legal_sites.specs.Steps.Bounds.{DoCover}
use Rattle.leg_legal_sites.specs.Steps.FreeRows.{LosesMet, AreTakenBeneath}
use Rattle.leg_legal_sites.specs.Steps.OnlyRow.{DoRise, AreAllSoHigh, IsOnlyMet}
use Rattle.leg_legal_sites.proofs.MetSites.{unmet_along_y}
use Rattle.leg_legal_sites.proofs.RowPlaces.{key_there}
use Rattle.leg_legal_sites.proofs.RowsAround.{rising_at}
use Rattle.leg_legal_sites.proofs.RowTree.{cover_below}
use Rattle.leg_legal_sites.proofs.TakenRows.{rows_joined}

abbrev none : Bounds
none = record { least_row = 0; least_site = 0; most_site = 0; low = pos 0; high = pos 0; top = pos 0; left = pos 0; right = pos 0; corner = pos 0; longest = 0 }

-- the nodes are those of the same rows as before
pub record AreJoinedAbove (order : List RowKey) (old : List Bounds) (above : ℕ) (new : List Bounds) : Type 0 where
  pub within : above < length order
  pub count : length new ≡ 2 * length order
  pub rows : (design : DesignModel) (lists : List (List Stretch)) → AreRowsOf design (record { lists = lists; order = order; nodes = old })
      → AreRowsOf design (record { lists = lists; order = order; nodes = new })

pub joined_first : (order : List RowKey) (nodes : List Bounds) (above : ℕ) → above < length order → length nodes ≡ 2 * length order
    → AreJoinedAbove order nodes above nodes
joined_first order nodes above within count = record { within = within; count = count; rows = λ design lists rows. rows }

pub joined_higher : (order : List RowKey) (old nodes : List Bounds) (above : ℕ) (outer : Bounds) → 1 ≤ above → DoCover outer (get_or nodes (2 * above) none)
    → DoCover outer (get_or nodes (2 * above + 1) none) → AreJoinedAbove order old above nodes → AreJoinedAbove order old (above / 2) (set nodes above outer)
joined_higher order old nodes above outer some left right so_far =
    let within = so_far.within in
    let count = so_far.count in
    record {
      within = omega (arith, within);
      count = length-set nodes above outer ∙ count;
      rows = λ design lists rows.
          rows_joined design order lists nodes above outer some within
          (cover_below nodes above outer none (omega (arith, within, count)) left right) (so_far.rows design lists rows);
    }

-- keys between two of one site are of that site
module _ (order : List RowKey) (rising : AllPairs IsBefore order) (first last : RowKey) (at_first : slice_get order 0 ≡ Some first)
    (at_last : slice_get order (length order - 1) ≡ Some last) (same : first.site ≡ last.site) where
  pub of_one_site : (i : ℕ) (key : RowKey) → slice_get order i ≡ Some key → key.site ≡ first.site
  of_one_site i key at =
      let below = slice_get_within order i key at in
      let from = rising_at order rising 0 i first key at_first at (omega arith) in
      let upto = rising_at order rising i (length order - 1) key last at at_last (omega (arith, below)) in
      let low : first.site ≤ key.site = elim from [ inl less ↦ omega (arith, less) | inr level ↦ let is = level.0 in omega (arith, is) ] in
      let high : key.site ≤ last.site = elim upto [ inl less ↦ omega (arith, less) | inr level ↦ let is = level.0 in omega (arith, is) ] in
      omega (arith, low, high, same)

  pub rise_of_one_site : DoRise order
  rise_of_one_site i j a b upto at_i at_j =
      let of_a = of_one_site i a at_i in
      let of_b = of_one_site j b at_j in
      elim (rising_at order rising i j a b at_i at_j upto) [
        | inl less ↦ absurd (omega (arith, less, of_a, of_b))
        | inr level ↦ level.1
      ]

  pub all_so_high : (design : DesignModel) → IsRowOrder design.rows order → (row : Row) (site : Site) → IsRowAt design first.row row site
      → IsCoordinate site.size.height → AreAllSoHigh design order site.size.height
  all_so_high design is_order row site at within = record {
    within = within;
    rise = rise_of_one_site;
    each = λ number other its there.
        let key : RowKey = record { site = other.site; y = other.at.y; x = other.at.x; row = number } in
        let has = (is_order.keys key).1 (record { row = other; there = there.there; site = refl; bottom = refl; left = refl }) in
        let at_key : slice_get order has.0 ≡ Some key = slice_get-get_or order has.0 key has.1 ∙ ap Some has.2 in
        let one : other.site ≡ first.site = of_one_site has.0 key at_key in
        let of = key_there design.rows order is_order 0 first at_first in
        let is_row : of.row ≡ row = same_Some of.row row (sym of.there ∙ at.there) in
        let as_first : other.site ≡ row.site = one ∙ of.site ∙ ap (λ (r : Row). r.site) is_row in
        ap (λ (s : Site). s.size.height) (same_Some its site (sym there.sited ∙ ap (slice_get design.library.sites) as_first ∙ at.sited));
  }

-- the rows up to a y stand first
pub upto_partitioned : (order : List RowKey) (y : ℤ) → DoRise order → IsPartitionedBy (λ key. int_le key.y y) order
upto_partitioned order y rise i j d upto within test =
    let a : RowKey = get_or order i d in
    let b : RowKey = get_or order j d in
    let at_i : slice_get order i ≡ Some a = slice_get-get_or order i d (omega (arith, upto, within)) in
    let at_j : slice_get order j ≡ Some b = slice_get-get_or order j d within in
    let rises = rise i j a b upto at_i at_j in
    let below = le_from_test b.y y test in
    le_test a.y y (omega (arith, ints, rises, below))

pub upto_from_point : (order : List RowKey) (y : ℤ) (place : ℕ) → IsPartitionPoint (λ key. int_le key.y y ≡ true) (λ key. int_le key.y y ≡ false) order place
    → (k : ℕ) (key : RowKey) → k < place → slice_get order k ≡ Some key → key.y ≤ℤ y
upto_from_point order y place point k key before at =
    let test = point.0 k key (omega arith) before in
    le_from_test key.y y (rw (get_or_from_slice_get order k key key at) at test)

-- the rows before a place end at the bottom or below it, and those after it begin at the top or above it
pub only_between : (rect : RectModel) (order : List RowKey) (height bottom : ℤ) (place : ℕ) → DoRise order → (bottom +ℤ height) ≤ℤ rect.y1
    → place < length order → ((k : ℕ) (key : RowKey) → k < place → slice_get order k ≡ Some key → key.y ≤ℤ bottom)
    → ((key : RowKey) → slice_get order (place + 1) ≡ Some key → rect.y2 ≤ℤ key.y) → IsOnlyMet rect order height place
only_between rect order height bottom place rise is_bottom there lower above = record {
  there = there;
  others = λ k key differ at. elim (cases_lt k place) [
    | inl before ↦ let below = lower k key before at in inl (omega (arith, ints, below, is_bottom))
    | inr late ↦
        let within = slice_get_within order k key at in
        let next : RowKey = get_or order (place + 1) key in
        let at_next : slice_get order (place + 1) ≡ Some next = slice_get-get_or order (place + 1) key (omega (arith, late, differ, within)) in
        let over = above next at_next in
        let rises = rise (place + 1) k next key (omega (arith, late, differ)) at_next at in
        inr (omega (arith, ints, over, rises))
  ];
}

-- what is taken from the only row that is met is taken from all
pub only_taken : (design : DesignModel) (rect : RectModel) (order : List RowKey) (height : ℤ) (place : ℕ) (old new : List (List Stretch))
    → IsRowOrder design.rows order → AreAllSoHigh design order height → IsOnlyMet rect order height place
    → AreTakenBeneath design rect order (length order + place) old new → AreTakenBeneath design rect order 1 old new
only_taken design rect order height place old new is_order high only taken = record {
  count = taken.count;
  each = taken.each;
  these = λ key a b leaf at now. elim (cases_eq leaf.place place) [
    | inl same ↦ taken.these key a b (record { place = leaf.place; there = leaf.there; levels = 0; beneath = ap (λ (n : ℕ). length order + n) same }) at now
    | inr differ ↦ elim (taken.each key.row a b at now) [
      | inl loses ↦ loses
      | inr kept ↦ rw kept (unmet key a leaf.place leaf.there differ)
    ]
  ];
} where
  unmet : (key : RowKey) (a : List Stretch) (k : ℕ) → slice_get order k ≡ Some key → k ≢ place → LosesMet design rect key.row a a
  unmet key a k there differ row site at i =
      let of = key_there design.rows order is_order k key there in
      let is_row : of.row ≡ row = same_Some of.row row (sym of.there ∙ at.there) in
      let y : key.y ≡ row.at.y = of.bottom ∙ ap (λ (r : Row). r.at.y) is_row in
      let tall = high.each key.row row site at in
      let beside : ((row.at.y +ℤ site.size.height) ≤ℤ rect.y1) ⊎ (rect.y2 ≤ℤ row.at.y) = elim (only.others k key differ there) [
        | inl above ↦ inl (omega (arith, ints, above, y, tall))
        | inr below ↦ inr (omega (arith, ints, below, y))
      ] in
      (λ free. (free, unmet_along_y row site.size rect beside i), λ both. both.0)
