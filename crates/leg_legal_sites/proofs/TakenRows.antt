-- Lists of free sites, one for each row, once a rectangle is taken from those that it may meet.
use Rattle.std.proofs.Common.{◌≡◌, ◌⊎◌, ℕ, ◌+◌, ◌*◌, ◌<◌, ◌≤◌, pos, List, [], ◌∷◌, ◌++◌, Some, Result, Ok, Err, OnOk, Contains, slice_get, length, get_or, set, refl, sym, ap, ◌∙◌, inl, inr, arith}
use Rattle.std.proofs.lemmas.Option.{same_Some, slice_get-get_or, slice_get_within, get_or_from_slice_get}
use Rattle.std.proofs.lemmas.List.Elements.{Contains-append_left, Contains-append_right, Contains-append_cases}
use Rattle.leg_geom.specs.Plane.{RectModel, ShareSquare}
use Rattle.leg_lib_records.specs.Measure.{ExtentModel}
use Rattle.leg_lib_records.specs.declared.records.Site.{Site}
use Rattle.leg_design_records.specs.declared.records.Row.{Row}
use Rattle.leg_design_records.specs.Records.{DesignModel}
use Rattle.leg_rules.specs.Placement.Sites.{site_box}
use Rattle.leg_legal_sites.specs.declared.stretch.Stretch.{Stretch}
use Rattle.leg_legal_sites.specs.declared.bounds.Bounds.{Bounds}
use Rattle.leg_legal_sites.specs.declared.row_keys.RowKey.{RowKey}
use Rattle.leg_legal_sites.specs.Steps.Stretches.{IsFreeSite}
use Rattle.leg_legal_sites.specs.Steps.RowSites.{AreSitesMet}
use Rattle.leg_legal_sites.specs.Steps.RowOrder.{IsKeyOf, IsRowOrder}
use Rattle.leg_rules.specs.Legalise.Clear.{IsClear}
use Rattle.leg_legal_sites.specs.Steps.FreeLists.{RowLists, IsRowAt, AreAllInDie, DoFit, AreRowsOf, AreFreeLists}
use Rattle.leg_legal_sites.specs.Steps.Parts.{LosesSites}
use Rattle.leg_legal_sites.specs.Steps.Bounds.{DoCover, IsBeside}
use Rattle.leg_legal_sites.specs.Steps.FreeRows.{LosesMet, AreTakenBeneath, AreTaken}
use Rattle.leg_legal_sites.specs.Steps.SharedLists.{LosesShared}
use Rattle.leg_legal_sites.proofs.FreeLists.{outside, beside}
use Rattle.leg_legal_sites.proofs.RowBounds.{bound_fewer, bound_more, unmet_beside}
use Rattle.leg_legal_sites.proofs.RowTree.{DoCoverBelow, leaf_beneath_first, beneath_either, nodes_set, fits_joined}

-- a number has one row, and that one site
pub same_row : (design : DesignModel) (number : ℕ) (row other : Row) (site its : Site) → IsRowAt design number row site → IsRowAt design number other its
    → (other ≡ row) × (its ≡ site)
same_row design number row other site its at there =
    let one : other ≡ row = same_Some other row (sym there.there ∙ at.there) in
    (one, same_Some its site (sym there.sited ∙ ap (λ (r : Row). slice_get design.library.sites r.site) one ∙ at.sited))

module _ (design : DesignModel) (rect : RectModel) (number : ℕ) where
  pub loses_twice : (old mid new : List Stretch) → LosesMet design rect number old mid → LosesMet design rect number mid new
      → LosesMet design rect number old new
  loses_twice old mid new first then row site there k = (
    λ free.
        let late = (then row site there k).0 free in
        let early = (first row site there k).0 late.0 in
        (early.0, late.1),
    λ both. (then row site there k).1 ((first row site there k).1 both, both.1),
  )

-- of the free sites of a row those are left that aren't taken
pub loses_from_sites : (rect : RectModel) (row : Row) (size : ExtentModel) (old new : List Stretch) (sites : Stretch) → AreSitesMet row size rect sites
    → LosesSites old sites.from sites.end new → LosesShared rect row size old new
loses_from_sites rect row size old new sites met without k = (
  λ free. let both = (without k).0 free in (both.0, λ shared. outside sites k both.1 ((met k).1 shared)),
  λ both. (without k).1 (both.0, beside sites k (λ among. both.1 ((met k).0 among))),
)

-- more sites are bounded by what covers the bounds of fewer
pub row_covered : (design : DesignModel) (lists : List (List Stretch)) (outer inner : Bounds) (number : ℕ) → DoCover outer inner
    → DoFit design lists inner number → DoFit design lists outer number
row_covered design lists outer inner number cover fits list there row site at =
    bound_more number row site.size outer inner list cover (fits list there row site at)

-- a node is joined anew of the two below it
pub rows_joined : (design : DesignModel) (order : List RowKey) (lists : List (List Stretch)) (nodes : List Bounds) (node : ℕ) (outer : Bounds) → 1 ≤ node
    → node < length order → DoCoverBelow nodes node outer → AreRowsOf design (record { lists = lists; order = order; nodes = nodes })
    → AreRowsOf design (record { lists = lists; order = order; nodes = set nodes node outer })
rows_joined design order lists nodes node outer some inner below rows = record {
  lists = rows.lists;
  inside = rows.inside;
  order = rows.order;
  nodes = nodes_set order (DoFit design lists) nodes node outer
      (fits_joined order (DoFit design lists) (row_covered design lists) nodes node outer rows.nodes some inner below) rows.nodes;
}

module _ (design : DesignModel) (rect : RectModel) where
  -- what is left of a list lies among what there was, where the row of this number has a site
  fewer_left : (number : ℕ) (row : Row) (site : Site) (a b : List Stretch) → IsRowAt design number row site → LosesMet design rect number a b ⊎ (b ≡ a)
      → (k : ℕ) → IsFreeSite b k → IsFreeSite a k
  fewer_left number row site a b at (inl loses) k free = ((loses row site at k).0 free).0
  fewer_left number row site a b at (inr same) k free = rw same at free

  module _ (old new : List (List Stretch)) (count : length new ≡ length old)
      (each : (number : ℕ) (a b : List Stretch) → slice_get old number ≡ Some a → slice_get new number ≡ Some b
      → LosesMet design rect number a b ⊎ (b ≡ a)) where
    before : (number : ℕ) (list : List Stretch) → slice_get new number ≡ Some list → slice_get old number ≡ Some (get_or old number list)
    before number list at = slice_get-get_or old number list (let within = slice_get_within new number list at in omega (arith, within, count))

    pub inside_still : AreAllInDie design old → AreAllInDie design new
    inside_still inside number list at row site is k free =
        let was = before number list at in
        inside number (get_or old number list) was row site is k
        (fewer_left number row site (get_or old number list) list is (each number (get_or old number list) list was at) k free)

    pub fit_still : (bounds : Bounds) (number : ℕ) → DoFit design old bounds number → DoFit design new bounds number
    fit_still bounds number fits list at row site is =
        let was = before number list at in
        bound_fewer number row site.size bounds (get_or old number list) list
        (fewer_left number row site (get_or old number list) list is (each number (get_or old number list) list was at))
        (fits (get_or old number list) was row site is)

  module _ (order : List RowKey) where
    -- a rectangle beside all that lies beneath a node meets none of it
    pub taken_beside : (lists : List (List Stretch)) (nodes : List Bounds) (node : ℕ) (bounds : Bounds) → 1 ≤ node
        → AreRowsOf design (record { lists = lists; order = order; nodes = nodes }) → slice_get nodes node ≡ Some bounds → IsBeside bounds rect
        → AreTakenBeneath design rect order node lists lists
    taken_beside lists nodes node bounds some rows there beside = record {
      count = refl;
      each = λ number a b at now. inr (same_Some b a (sym now ∙ at));
      these = λ key a b leaf at now row site is k.
          let one : b ≡ a = same_Some b a (sym now ∙ at) in
          let bound = rows.nodes.fit node bounds key some there leaf a at row site is in
          rw one (λ free. (free, unmet_beside key.row row site.size bounds rect k beside (bound.sites k free)), λ both. both.0);
    }

    -- beneath both nodes below one
    pub taken_both : (node : ℕ) (old mid new : List (List Stretch)) → node < length order → AreTakenBeneath design rect order (2 * node) old mid
        → AreTakenBeneath design rect order (2 * node + 1) mid new → AreTakenBeneath design rect order node old new
    taken_both node old mid new before first then = record {
      count = then.count ∙ first.count;
      each = λ number a b at now. let m = between number b now in
          both number a m b (first.each number a m at (in_mid number b now)) (then.each number m b (in_mid number b now) now);
      these = λ key a b leaf at now.
          let m = between key.row b now in
          let at_mid = in_mid key.row b now in
          elim (beneath_either order node key before leaf) [
            | inl left ↦ one_then key.row a m b (first.these key a m left at at_mid) (then.each key.row m b at_mid now)
            | inr right ↦ then_one key.row a m b (first.each key.row a m at at_mid) (then.these key m b right at_mid now)
          ];
    } where
      between : (number : ℕ) (b : List Stretch) → slice_get new number ≡ Some b → List Stretch
      between number b now = get_or mid number b

      in_mid : (number : ℕ) (b : List Stretch) (now : slice_get new number ≡ Some b) → slice_get mid number ≡ Some (between number b now)
      in_mid number b now = slice_get-get_or mid number b (let within = slice_get_within new number b now in omega (arith, within, then.count))

      one_then : (number : ℕ) (a m b : List Stretch) → LosesMet design rect number a m → LosesMet design rect number m b ⊎ (b ≡ m)
          → LosesMet design rect number a b
      one_then number a m b loses (inl more) = loses_twice design rect number a m b loses more
      one_then number a m b loses (inr same) = rw same loses

      then_one : (number : ℕ) (a m b : List Stretch) → LosesMet design rect number a m ⊎ (m ≡ a) → LosesMet design rect number m b
          → LosesMet design rect number a b
      then_one number a m b (inl loses) more = loses_twice design rect number a m b loses more
      then_one number a m b (inr same) more = rw same at more

      both : (number : ℕ) (a m b : List Stretch) → LosesMet design rect number a m ⊎ (m ≡ a) → LosesMet design rect number m b ⊎ (b ≡ m)
          → LosesMet design rect number a b ⊎ (b ≡ a)
      both number a m b (inl loses) more = inl (one_then number a m b loses more)
      both number a m b (inr same) (inl more) = inl (rw same at more)
      both number a m b (inr same) (inr kept) = inr (kept ∙ same)

    -- beneath the first node lie all rows
    pub all_taken : (old new : List (List Stretch)) → IsRowOrder design.rows order → AreTakenBeneath design rect order 1 old new → AreTaken design rect old new
    all_taken old new is_order taken = record {
      count = taken.count;
      each = λ number a b at now row site is.
          let key : RowKey = record { site = row.site; y = row.at.y; x = row.at.x; row = number } in
          let found = (is_order.keys key).1 (record { row = row; there = is.there; site = refl; bottom = refl; left = refl }) in
          let place : ℕ = found.0 in
          let there : slice_get order place ≡ Some key = slice_get-get_or order place key found.1 ∙ ap Some found.2 in
          taken.these key a b (leaf_beneath_first order place key there) at now row site is;
    }

only_box : (rect other : RectModel) → Contains (rect ∷ []) other → other ≡ rect
only_box rect other (place, below, is) =
    let first : place ≡ 0 = omega (arith, below) in
    sym (rw first at is)

module _ (design : DesignModel) (rect : RectModel) (boxes : List RectModel) (old new : RowLists) (known : AreFreeLists design boxes old)
    (taken : AreTaken design rect old.lists new.lists) where
  -- what was clear of the boxes, and shares no unit square with this one, is clear of all
  clear_of_all : (box : RectModel) → IsClear design.die (Contains boxes) box → ¬ ShareSquare rect box → IsClear design.die (Contains (boxes ++ rect ∷ [])) box
  clear_of_all box clear apart = record {
    inside = clear.inside;
    alone = λ other has shared. elim (Contains-append_cases boxes (rect ∷ []) other has) [
      | inl before ↦ clear.alone other before shared
      | inr this ↦ apart (rw (only_box rect other this) at shared)
    ];
  }

  clear_of_these : (box : RectModel) → IsClear design.die (Contains (boxes ++ rect ∷ [])) box → IsClear design.die (Contains boxes) box
  clear_of_these box clear = record {
    inside = clear.inside;
    alone = λ other has. clear.alone other (Contains-append_left boxes (rect ∷ []) other has);
  }

  clear_of_rect : (box : RectModel) → IsClear design.die (Contains (boxes ++ rect ∷ [])) box → ¬ ShareSquare rect box
  clear_of_rect box clear = clear.alone rect (Contains-append_right boxes (rect ∷ []) rect (0, omega arith, refl))

  pub known_once_taken : AreRowsOf design new → AreFreeLists design (boxes ++ rect ∷ []) new
  known_once_taken rows = record {
    rows = rows;
    each = λ number row site list there at k.
        let below : number < length new.lists = slice_get_within new.lists number list at in
        let count = taken.count in
        let was : List Stretch = get_or old.lists number list in
        let before : slice_get old.lists number ≡ Some was = slice_get-get_or old.lists number list (omega (arith, below, count)) in
        let loses = taken.each number was list before at row site there k in
        let knew = known.each number row site was there before k in (
          λ free.
              let both = loses.0 free in
              let clear = knew.0 both.0 in
              (clear.0, clear_of_all (site_box row site.size k) clear.1 both.1),
          λ clear. loses.1 (knew.1 (clear.0, clear_of_these (site_box row site.size k) clear.1), clear_of_rect (site_box row site.size k) clear.1),
        );
  }

abbrev pub nowhere : RowKey
nowhere = record { site = 0; y = pos 0; x = pos 0; row = 0 }

-- the key at a place of the order, of a row that there is
pub key_within : (rows : List Row) (order : List RowKey) (place : ℕ) → IsRowOrder rows order → place < length order
    → (get_or order place nowhere).row < length rows
key_within rows order place is below =
    let key : RowKey = get_or order place nowhere in
    let of : IsKeyOf rows key = (is.keys key).0 (place, below, get_or_from_slice_get order place key key (slice_get-get_or order place nowhere below)) in
    slice_get_within rows key.row of.row of.there

-- A box is taken from the lists that a struct has, which stands for these rows.
pub box_taken : {T E : Type 0} (r : Result T E) (design : DesignModel) (rect : RectModel) (old free new : RowLists) → free ≡ old
    → OnOk r (AreRowsOf design new) → OnOk r (AreTakenBeneath design rect new.order 1 free.lists new.lists)
    → OnOk r ((boxes : List RectModel) → AreFreeLists design boxes old → AreFreeLists design (boxes ++ rect ∷ []) new)
box_taken (Ok x) design rect old free new same now taken = λ boxes known.
    let knew : AreFreeLists design boxes free = rw same known in
    known_once_taken design rect boxes free new knew (all_taken design rect new.order free.lists new.lists now.order taken) now
box_taken (Err e) design rect old free new same now taken = tt

-- where there are no rows, nothing is taken
pub box_of_none : (design : DesignModel) (rect : RectModel) (free : RowLists) → length free.order ≡ 0 → (boxes : List RectModel)
    → AreFreeLists design boxes free → AreFreeLists design (boxes ++ rect ∷ []) free
box_of_none design rect free none boxes known =
    known_once_taken design rect boxes free free known (record {
      count = refl;
      each = λ number a b at now row site is.
          let key : RowKey = record { site = row.site; y = row.at.y; x = row.at.x; row = number } in
          let found = (known.rows.order.keys key).1 (record { row = row; there = is.there; site = refl; bottom = refl; left = refl }) in
          absurd (omega (arith, found.1, none));
    }) known.rows
