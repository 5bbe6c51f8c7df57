-- Shapes that are nearer than a table asks for, as the search asks for them. Its rule needs the laws after the definition.
use Rattle.std.proofs.Common.{◌≡◌, ◌≤◌, ℕ, ℤ, Bool, true, false, cond, int_lt, min, max, List, [], ◌∷◌, length, get_or, unsigned_abs, refl, arith}
use Rattle.std.specs.Int.{int_min, int_max}
use Rattle.std.proofs.lemmas.Int.{ints, clamps}
use Rattle.leg_geom.specs.Plane.{RectModel}
use Rattle.leg_geom.proofs.Gaps.{SharePoint-symmetric}
use Rattle.leg_lib_records.specs.Records.{LibraryModel}
use Rattle.leg_rules.specs.declared.shape.Shape.{Shape}
use Rattle.leg_wire_spacing.proofs.CloserShapes.{comparable_back, nearer_back, too_near_back}
use Rattle.leg_drc_rules.specs.Records.{RowModel, TableModel, DeckModel}
use Rattle.leg_drc.specs.Sides.{lesser_side, overlap, parallel_run}
use Rattle.leg_drc.specs.Table.{value_behind, value_for, row_behind, table_value, table_spacing, AreNearerThanTable}
use Rattle.leg_drc.specs.declared.candidate.Owners.TheVariants.{Each}
use Rattle.leg_drc.specs.Steps.Reach.{greatest_by, row_reach, table_reach, table_reach_on}
use Rattle.leg_drc.specs.Steps.Candidates.{IsCandidate}
use Rattle.leg_drc.specs.Steps.NearRule.{greatest, AreGapsWithin, nearer_gaps, nearer_above, reach_at, reach_within}

-- no table asks for more than the reach of its layer
abbrev pub AreTableReaches : DeckModel → List ℕ → Type 0
AreTableReaches deck reaches = (layer : ℕ) → table_reach_on deck layer ≤ get_or reaches layer 0

-- what holds of both holds of the one that is taken
either : {X : Type 0} (P : X → Type 0) (x y : X) (b : Bool) → P x → P y → P (cond b x y)
either P x y true first second = first
either P x y false first second = second

-- what is found among values is no more than the greatest
value_within : (run value : ℤ) (runs values : List ℤ)
    → unsigned_abs (value_behind run value runs values) ≤ max (unsigned_abs value) (greatest_by unsigned_abs values)
value_within run value [] values = omega arith
value_within run value (below ∷ runs) [] = omega arith
value_within run value (below ∷ runs) (other ∷ values) =
    either (λ found. unsigned_abs (value_behind run found runs values) ≤ max (unsigned_abs value) (greatest_by unsigned_abs (other ∷ values)))
    other value (int_lt below run) (omega (arith, value_within run other runs values)) (omega (arith, value_within run value runs values))

value_for-within : (run : ℤ) (runs values : List ℤ) → unsigned_abs (value_for run runs values) ≤ greatest_by unsigned_abs values
value_for-within run runs [] = omega arith
value_for-within run runs (value ∷ values) = omega (arith, value_within run value runs (value ∷ values))

row_within : (width : ℤ) (row : RowModel) (rows : List RowModel) → row_reach (row_behind width row rows) ≤ max (row_reach row) (greatest_by row_reach rows)
row_within width row [] = omega arith
row_within width row (other ∷ rows) =
    either (λ found. row_reach (row_behind width found rows) ≤ max (row_reach row) (greatest_by row_reach (other ∷ rows)))
    other row (int_lt other.width width) (omega (arith, row_within width other rows)) (omega (arith, row_within width row rows))

table_value-within : (runs : List ℤ) (rows : List RowModel) (width run : ℤ)
    → unsigned_abs (table_value (record { runs = runs; rows = rows }) width run) ≤ greatest_by row_reach rows
table_value-within runs [] width run = omega arith
table_value-within runs (row ∷ rows) width run =
    let chosen = row_behind width row rows in
    omega (arith, value_for-within run runs chosen.values, row_within width row rows)

-- a table asks for no more than its reach
pub spacing_within : (table : TableModel) (a b : RectModel) → table_spacing table a b ≤ table_reach table
unfolding table_spacing
spacing_within table a b = table_value-within table.runs table.rows (int_max (lesser_side a) (lesser_side b)) (parallel_run a b)

-- and asks the same of two rectangles in either order
max_back : (a b : ℤ) → int_max a b ≡ int_max b a
max_back a b = omega (arith, ints, clamps)

min_back : (a b : ℤ) → int_min a b ≡ int_min b a
min_back a b = omega (arith, ints, clamps)

overlap_back : (a_low a_high b_low b_high : ℤ) → overlap a_low a_high b_low b_high ≡ overlap b_low b_high a_low a_high
overlap_back a_low a_high b_low b_high = rw (min_back a_high b_high, max_back a_low b_low) refl

run_back : (a b : RectModel) → parallel_run a b ≡ parallel_run b a
run_back a b = rw (overlap_back a.x1 a.x2 b.x1 b.x2, overlap_back a.y1 a.y2 b.y1 b.y2) refl

spacing_back : (table : TableModel) (a b : RectModel) → table_spacing table a b ≡ table_spacing table b a
unfolding table_spacing
spacing_back table a b = rw (max_back (lesser_side a) (lesser_side b), run_back a b) refl

module _ (library : LibraryModel) (deck : DeckModel) (a b : Shape) (h : AreNearerThanTable library deck a b) where
  -- the shapes are so in either order
  pub table_back : AreNearerThanTable library deck b a
  table_back = record {
    table = h.table;
    comparable = comparable_back a b h.comparable;
    apart = λ shared. h.apart (SharePoint-symmetric b.rect a.rect shared);
    other = λ near. h.other (too_near_back library b a near);
    has_table = rw (← h.comparable.layer) h.has_table;
    near = rw (spacing_back h.table b.rect a.rect) (nearer_back (table_spacing h.table a.rect b.rect) a.rect b.rect h.near);
  }

  spacing_on : table_spacing h.table a.rect b.rect ≤ table_reach_on deck a.layer
  spacing_on = rw h.has_table (spacing_within h.table a.rect b.rect)

  module _ (reaches : List ℕ) (are : AreTableReaches deck reaches) where
    spacing_reach : table_spacing h.table a.rect b.rect ≤ get_or reaches a.layer 0
    spacing_reach = omega (arith, spacing_on, are a.layer)

    pub table_near : AreGapsWithin (greatest reaches) a.rect b.rect
    table_near =
        nearer_gaps (table_spacing h.table a.rect b.rect) (greatest reaches) a.rect b.rect (omega (arith, spacing_reach, reach_within reaches a.layer)) h.near

    pub table_near_on_layer : AreGapsWithin (get_or reaches (min a.layer (length reaches)) 0) a.rect b.rect
    table_near_on_layer =
        rw (reach_at reaches a.layer) (nearer_gaps (table_spacing h.table a.rect b.rect) (get_or reaches a.layer 0) a.rect b.rect spacing_reach h.near)

    -- the first one is a candidate
    pub table_candidate : IsCandidate Each reaches a
    table_candidate = record {
      owner = tt;
      reach = let above = nearer_above (table_spacing h.table a.rect b.rect) a.rect b.rect h.near in omega (arith, above, spacing_reach);
    }
