-- The box of the slots in a rectangle.
use Rattle.std.proofs.Common.{◌≡◌, ℕ, ◌<◌, ◌⊎◌, inl, inr, List, ◌++◌, Contains, sym, subst, ◌∙◌, arith}
use Rattle.std.proofs.lemmas.Option.{slice_get_within}
use Rattle.std.proofs.lemmas.List.Elements.{All-append, All-contains, Contains-append_cases, Contains-append_right}
use Rattle.leg_lemmas.proofs.Contents.{All-from_contains}
use Rattle.leg_geom.specs.Plane.{RectModel}
use Rattle.leg_route_grid.specs.declared.slot.Slot.{Slot}
use Rattle.leg_route_grid.specs.declared.slot_box.SlotBox.{SlotBox}
use Rattle.leg_route_grid.specs.Steps.Grid.{GridModel, IsDesignGrid, IsSlot, IsNumberOf, slot_total}
use Rattle.leg_route_grid.specs.Steps.NodesInRect.{LiesInRect}
use Rattle.leg_route_grid.specs.Steps.NodeNumbers.{IsOneOf}
use Rattle.leg_route_grid.specs.Steps.WalkBounds.{slot_bound, nearest, slot_of, bound_at, IsBoxOf, IsInBox, HasJust, AreBoxed}
use Rattle.leg_route_grid.specs.Steps.Boxes.{IsBoxAt, HaveGotBox}
use Rattle.leg_geom.specs.Line.{ArePlaces}
use Rattle.leg_route_grid.specs.Steps.SlotRanges.{IsRoutingLayerAt, IsInRows, HaveGot}
use Rattle.leg_route_grid.proofs.Bounds.{slot_is, slot_there, in_boxes, nearest_first, nearest_upto, nearest_none, from_none, none_upto}
use Rattle.leg_route_grid.proofs.SlotRanges.{in_rect, from_rect}

-- a slot has one number of layer, row and column
record IsSame (k j i l m n : ℕ) : Type 0 where
  pub layer : k ≡ l
  pub row : j ≡ m
  pub column : i ≡ n

same_slot : (grid : GridModel) (n k j i : ℕ) (s : Slot) → IsSlot grid n k j i → IsSlot grid n s.layer s.row s.column → IsSame k j i s.layer s.row s.column
same_slot grid n k j i s a b =
    let one = slot_is grid n k j i a in
    let other = slot_is grid n s.layer s.row s.column b in
    record { layer = sym one.layer ∙ other.layer; row = sym one.row ∙ other.row; column = sym one.column ∙ other.column }

module _ (grid : GridModel) (is_grid : IsDesignGrid grid) (layer : ℕ) (rect : RectModel) (k c0 c1 r0 r1 : ℕ) (on : IsRoutingLayerAt grid.layers layer k)
    (columns : ArePlaces grid.xs rect.x1 rect.x2 c0 c1)
    (rows : ArePlaces grid.ys rect.y1 rect.y2 r0 r1) where
  abbrev InRect : ℕ → Type 0
  InRect n = IsOneOf (IsNumberOf grid) (LiesInRect layer rect) n

  -- such rows and columns are those of a slot in the box
  comes_in : (n : ℕ) (s : Slot) (ends : SlotBox) → IsBoxAt k (r0, r1) (c0, c1) ends → IsSlot grid n s.layer s.row s.column
      → IsInRows grid k (r0, r1) (c0, c1) n → IsInBox ends s
  comes_in n s ends is slot row =
      let column = row.is in
      let same = same_slot grid n k row.k column.k s column.is slot in
      record {
        low_layer = omega (arith, is.low_layer, same.layer);
        high_layer = omega (arith, is.high_layer, same.layer);
        low_row = omega (arith, is.low_row, same.row, row.from);
        high_row = omega (arith, is.high_row, same.row, row.below);
        low_column = omega (arith, is.low_column, same.column, column.from);
        high_column = omega (arith, is.high_column, same.column, column.below);
      }

  goes_out : (n : ℕ) (s : Slot) (ends : SlotBox) → IsBoxAt k (r0, r1) (c0, c1) ends → IsSlot grid n s.layer s.row s.column → IsInBox ends s
      → IsInRows grid k (r0, r1) (c0, c1) n
  goes_out n s ends is slot inside =
      let layer_is : s.layer ≡ k = omega (arith, is.low_layer, is.high_layer, inside.low_layer, inside.high_layer) in
      record {
        k = s.row;
        from = omega (arith, is.low_row, inside.low_row);
        below = omega (arith, is.high_row, inside.high_row);
        is = record {
          k = s.column;
          from = omega (arith, is.low_column, inside.low_column);
          below = omega (arith, is.high_column, inside.high_column);
          is = rw layer_is at slot;
        };
      }

  -- the box has just the slots in the rectangle
  has_just : (ends : SlotBox) → IsBoxAt k (r0, r1) (c0, c1) ends → HasJust grid InRect ends
  has_just ends is =
      let within = slice_get_within grid.layers k on.layer on.there in
      let some_rows = is.some_rows in
      let some_columns = is.some_columns in
      let last_row = rows.within in
      let last_column = columns.within in
      record {
        corners = record {
          low = record {
            layer = omega (arith, within, is.low_layer);
            row = omega (arith, some_rows, last_row, is.low_row);
            column = omega (arith, some_columns, last_column, is.low_column);
          };
          high = record {
            layer = omega (arith, within, is.high_layer);
            row = omega (arith, last_row, is.high_row);
            column = omega (arith, last_column, is.high_column);
          };
        };
        each = λ n s slot. (
          λ one. comes_in n s ends is slot (from_rect grid is_grid layer rect k c0 c1 r0 r1 on columns rows n one),
          λ inside. in_rect grid is_grid layer rect k c0 c1 r0 r1 on columns rows n (goes_out n s ends is slot inside),
        );
      }

  module _ (before after : List SlotBox) (got : HaveGotBox k (r0, r1) (c0, c1) before after) where
    -- which boxes are new
    pub new_boxes : (ends : SlotBox) → Contains after ends → Contains before ends ⊎ HasJust grid InRect ends
    new_boxes ends has = elim (Contains-append_cases before got.more ends (rw got.are at has)) [
      | inl old ↦ inl old
      | inr new ↦ inr (has_just ends (All-contains (IsBoxAt k (r0, r1) (c0, c1)) got.more ends got.each new))
    ]

    -- none of the slots lies outside of all boxes
    module _ (slots numbers : List ℕ) (added : HaveGot InRect slots numbers) (boxed : AreBoxed grid before slots) where
      old_slot : (n : ℕ) → Contains slots n → bound_at grid after n ≡ 0
      old_slot n has =
          let none : bound_at grid before n ≡ 0 = All-contains (λ n. bound_at grid before n ≡ 0) slots n boxed.inside has in
          let upto = nearest_first before got.more (slot_of grid n) in
          rw got.are (none_upto (nearest (before ++ got.more) (slot_of grid n)) (bound_at grid before n) upto none)

      new_slot : (n : ℕ) → InRect n → bound_at grid after n ≡ 0
      new_slot n one =
          let row = from_rect grid is_grid layer rect k c0 c1 r0 r1 on columns rows n one in
          let column = row.is in
          let s : Slot = record { layer = k; row = row.k; column = column.k } in
          let box =
          got.some (let from = row.from in let below = row.below in omega (arith, from, below))
          (let from = column.from in let below = column.below in omega (arith, from, below)) in
          let is = All-contains (IsBoxAt k (r0, r1) (c0, c1)) got.more box.0 got.each box.1 in
          in_boxes grid after box.0 n s column.is (rw got.are (Contains-append_right before got.more box.0 box.1)) (comes_in n s box.0 is column.is row)

      -- and each slot that lies in one of them is among the numbers
      only_slots : (n : ℕ) → n < slot_total grid → bound_at grid after n ≡ 0 → Contains numbers n
      only_slots n within none =
          let s = slot_of grid n in
          let box = nearest_none after s none in
          let has : Contains (before ++ got.more) box.0 = subst (λ (bs : List SlotBox). Contains bs box.0) got.are box.1 in
          elim (Contains-append_cases before got.more box.0 has) [
            | inl old ↦
                let upto = nearest_upto before box.0 s old in
                (added n).1 (inl (boxed.only n within (none_upto (nearest before s) (slot_bound box.0 s) upto box.2)))
            | inr new ↦
                let is = All-contains (IsBoxAt k (r0, r1) (c0, c1)) got.more box.0 got.each new in
                (added n).1 (inr (((has_just box.0 is).each n s (slot_there grid n within)).1 (from_none box.0 s box.2)))
          ]

      pub still_boxed : AreBoxed grid after numbers
      still_boxed = record {
        corners = rw got.are
            (All-append (IsBoxOf grid) before got.more boxed.corners
            (All-from_contains (IsBoxOf grid) got.more
            (λ ends has. (has_just ends (All-contains (IsBoxAt k (r0, r1) (c0, c1)) got.more ends got.each has)).corners)));
        inside =
            All-from_contains (λ n. bound_at grid after n ≡ 0) numbers
            (λ n has. elim ((added n).0 has) [ inl old ↦ old_slot n old | inr new ↦ new_slot n new ]);
        only = only_slots;
      }

-- where none is left to the nearest of some boxes, none is left to that of others that have them too
none_as : (before after : List SlotBox) (s : Slot) → ((ends : SlotBox) → Contains before ends → Contains after ends) → nearest before s ≡ 0
    → nearest after s ≡ 0
none_as before after s same none =
    let box = nearest_none before s none in
    let upto = nearest_upto after box.0 s (same box.0 box.1) in
    none_upto (nearest after s) (slot_bound box.0 s) upto box.2

-- the boxes may stand in another order
pub boxed_as : (grid : GridModel) (before after : List SlotBox) (numbers : List ℕ) → ((ends : SlotBox) → Contains before ends → Contains after ends)
    → ((ends : SlotBox) → Contains after ends → Contains before ends)
    → AreBoxed grid before numbers → AreBoxed grid after numbers
boxed_as grid before after numbers to from boxed = record {
  corners = All-from_contains (IsBoxOf grid) after (λ ends has. All-contains (IsBoxOf grid) before ends boxed.corners (from ends has));
  inside = All-from_contains (λ n. bound_at grid after n ≡ 0) numbers (λ n has.
      none_as before after (slot_of grid n) to (All-contains (λ n. bound_at grid before n ≡ 0) numbers n boxed.inside has));
  only = λ n within none. boxed.only n within (none_as after before (slot_of grid n) from none);
}
