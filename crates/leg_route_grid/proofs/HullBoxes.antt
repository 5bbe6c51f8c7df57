-- Hulls of boxes, and what is passed over with them.
use Rattle.std.proofs.Common.{◌≡◌, zero, suc, ℕ, ◌+◌, ◌-◌, ◌<◌, ◌≤◌, List, [], ◌∷◌, ◌++◌, All, min, length, get_or, drop, Some, slice_get, inl, inr, sym, ap, subst, ◌∙◌, arith}
use Rattle.std.proofs.lemmas.Bool.{cases_lt}
use Rattle.std.proofs.lemmas.List.{drop_more}
use Rattle.std.proofs.Math.Nat.{min-le_right}
use Rattle.std.proofs.lemmas.Option.{slice_get_within, slice_get-get_or}
use Rattle.leg_lemmas.proofs.Places.{in_first, last_or_before}
use Rattle.leg_route_grid.specs.declared.slot.Slot.{Slot}
use Rattle.leg_route_grid.specs.declared.slot_box.SlotBox.{SlotBox}
use Rattle.leg_route_grid.specs.declared.hulls.Hull.{Hull}
use Rattle.leg_route_grid.specs.Steps.Grid.{GridModel, IsDesignGrid, IsSlot}
use Rattle.leg_route_grid.specs.Steps.WalkBounds.{gap, slot_bound, nearest, IsBoxOf}
use Rattle.leg_route_grid.specs.Steps.Hulls.{Covers, IsHullAt, AreEachHull, AreHulls}
use Rattle.leg_route_grid.proofs.Bounds.{bound_small}

abbrev pub nowhere : SlotBox
nowhere = record { low = record { layer = 0; row = 0; column = 0 }; high = record { layer = 0; row = 0; column = 0 } }

pub covers_through : (a b c : SlotBox) → Covers a b → Covers b c → Covers a c
covers_through a b c first second = record {
  low_layer = omega (arith, first.low_layer, second.low_layer);
  low_row = omega (arith, first.low_row, second.low_row);
  low_column = omega (arith, first.low_column, second.low_column);
  high_layer = omega (arith, first.high_layer, second.high_layer);
  high_row = omega (arith, first.high_row, second.high_row);
  high_column = omega (arith, first.high_column, second.high_column);
}

-- a slot is no farther outside of a hull than outside of what lies in it
pub covers_bound : (hull ends : SlotBox) (s : Slot) → Covers hull ends → slot_bound hull s ≤ slot_bound ends s
covers_bound hull ends s covers =
    let l : gap hull.low.layer hull.high.layer s.layer ≤ gap ends.low.layer ends.high.layer s.layer = omega (arith, covers.low_layer, covers.high_layer) in
    let r : gap hull.low.row hull.high.row s.row ≤ gap ends.low.row ends.high.row s.row = omega (arith, covers.low_row, covers.high_row) in
    let c : gap hull.low.column hull.high.column s.column ≤ gap ends.low.column ends.high.column s.column =
    omega (arith, covers.low_column, covers.high_column) in
    omega (arith, l, r, c)

-- one hull more
pub hulls_push : (boxes : List SlotBox) (hulls : List Hull) (last : ℕ) (hull : Hull) → length hulls ≡ last → AreEachHull boxes hulls
    → IsHullAt boxes last hull → AreEachHull boxes (hulls ++ hull ∷ [])
hulls_push boxes hulls last hull count each is k other there = elim (last_or_before hulls hull k other there) [
  | inl before ↦ each k other before
  | inr new ↦ subst (λ (h : Hull). IsHullAt boxes k h) (sym new.1) (subst (λ (n : ℕ). IsHullAt boxes n hull) (sym (new.0 ∙ count)) is)
]

-- hulls of the first boxes are hulls still when there are more
pub hulls_stay : (boxes more : List SlotBox) (hulls : List Hull) → AreHulls boxes hulls → AreEachHull (boxes ++ more) hulls
hulls_stay boxes more hulls are k hull there =
    let is = are.each k hull there in
    let low = slice_get_within hulls k hull there in
    let count = are.one_each in
    record {
      some = is.some;
      within = is.within;
      covers = λ j ends read below above. is.covers j ends (sym (in_first boxes more j (omega (arith, low, count, below))) ∙ read) below above;
    }

-- the hull of some boxes, and of those that end before them
pub hull_of_more : (boxes : List SlotBox) (last : ℕ) (hull before : Hull) (ends : SlotBox) → hull.count ≤ last → IsHullAt boxes last hull
    → IsHullAt boxes (last - hull.count) before
    → Covers ends hull.ends → Covers ends before.ends → IsHullAt boxes last (record { ends = ends; count = hull.count + before.count })
hull_of_more boxes last hull before ends room is was first second = record {
  some = omega (arith, is.some);
  within = omega (arith, was.within, room);
  covers = λ j other read upto past. elim (cases_lt last (j + hull.count)) [
    | inl near ↦ covers_through ends hull.ends other first (is.covers j other read upto near)
    | inr far ↦ covers_through ends before.ends other second (was.covers j other read (omega (arith, far, room)) (omega (arith, past, room)))
  ];
}

least_more : (least most a b : ℕ) → least ≡ min most b → least ≤ a → least ≡ min most (min a b)
least_more least most a b is upto = grind (arith, is, upto)

module _ (boxes : List SlotBox) (s : Slot) (most least : ℕ) where
  -- the nearest of the boxes from this one on
  from_here : (i : ℕ) → i < length boxes → nearest (drop i boxes) s ≡ min (slot_bound (get_or boxes i nowhere) s) (nearest (drop (i + 1) boxes) s)
  from_here i within = ap (λ bs. nearest bs s) (drop_more boxes i nowhere within)

  -- boxes that are no nearer are passed over
  pub nearest_past : (before count : ℕ) → count ≤ before → before ≤ length boxes
      → ((j : ℕ) → before ≤ j + count → j < before → least ≤ slot_bound (get_or boxes j nowhere) s)
      → least ≡ min most (nearest (drop before boxes) s) → least ≡ min most (nearest (drop (before - count) boxes) s)
  nearest_past before zero room within far is = let all : before - 0 ≡ before = omega arith in rw all is
  nearest_past before (suc count) room within far is =
      let i = before - suc count in
      let next : before - count ≡ i + 1 = omega (arith, room) in
      let so_far = nearest_past before count (omega (arith, room)) within (λ j from below. far j (omega (arith, from)) below) is in
      least_more least most _ _ (so_far ∙ ap (λ n. min most (nearest (drop n boxes) s)) next) (far i (omega (arith, room)) (omega (arith, room)))
      ∙ sym (ap (min most) (from_here i (omega (arith, room, within))))

as_least : (a b : ℕ) → a ≤ b → a ≡ min a b
as_least a b upto = grind (arith, upto)

from_least : (a b : ℕ) → a ≡ min a b → a ≤ b
from_least a b is = grind (arith, is)

-- what is no more than is left to some boxes is no more than to those before them either, where none of these is nearer
pub upto_past : (boxes : List SlotBox) (s : Slot) (least before count : ℕ) → count ≤ before → before ≤ length boxes
    → ((j : ℕ) → before ≤ j + count → j < before → least ≤ slot_bound (get_or boxes j nowhere) s)
    → least ≤ nearest (drop before boxes) s → least ≤ nearest (drop (before - count) boxes) s
upto_past boxes s least before count room within far upto =
    from_least least _ (nearest_past boxes s least least before count room within far (as_least least _ upto))

-- the nearest of all boxes is no farther than that of some
pub nearest_drop : (boxes : List SlotBox) (s : Slot) (i : ℕ) → nearest boxes s ≤ nearest (drop i boxes) s
nearest_drop boxes s zero = omega arith
nearest_drop [] s (suc i) = omega arith
nearest_drop (ends ∷ boxes) s (suc i) =
    let upto = min-le_right (slot_bound ends s) (nearest boxes s) in let rest = nearest_drop boxes s i in omega (arith, upto, rest)

none_of_more : (least most a b : ℕ) → least ≡ 0 → least ≡ min most b → a ≤ b → least ≡ min most a
none_of_more least most a b none is upto = grind (arith, none, is, upto)

-- where none is left to some of the boxes, none is left to the nearest of all
pub nearest_none_left : (boxes : List SlotBox) (s : Slot) (most least i : ℕ) → least ≡ 0 → least ≡ min most (nearest (drop i boxes) s)
    → least ≡ min most (nearest boxes s)
nearest_none_left boxes s most least i none is = none_of_more least most (nearest boxes s) (nearest (drop i boxes) s) none is (nearest_drop boxes s i)

abbrev pub no_hull : Hull
no_hull = record { ends = nowhere; count = 0 }

-- the hull of the boxes that end before this one
pub hull_before : (boxes : List SlotBox) (hulls : List Hull) (before : ℕ) → AreHulls boxes hulls → 0 < before → before ≤ length boxes
    → IsHullAt boxes (before - 1) (get_or hulls (before - 1) no_hull)
hull_before boxes hulls before are some within =
    let count = are.one_each in
    are.each (before - 1) (get_or hulls (before - 1) no_hull) (slice_get-get_or hulls (before - 1) no_hull (omega (arith, some, within, count)))

module _ (boxes : List SlotBox) (last : ℕ) (hull : Hull) (is : IsHullAt boxes last hull) (within : last < length boxes) where
  -- a box is no nearer than a hull in which it lies
  pub hull_upto : (s : Slot) (j : ℕ) → j ≤ last → last < j + hull.count → slot_bound hull.ends s ≤ slot_bound (get_or boxes j nowhere) s
  hull_upto s j upto past =
      let there : slice_get boxes j ≡ Some (get_or boxes j nowhere) = slice_get-get_or boxes j nowhere (omega (arith, upto, within)) in
      covers_bound hull.ends (get_or boxes j nowhere) s (is.covers j (get_or boxes j nowhere) there upto past)

  pub hull_small : (grid : GridModel) (n : ℕ) (s : Slot) → IsDesignGrid grid → All (IsBoxOf grid) boxes → IsSlot grid n s.layer s.row s.column
      → slot_bound hull.ends s ≤ 50331648
  hull_small grid n s is_grid corners slot =
      let some = is.some in
      let small = bound_small grid (get_or boxes last nowhere) n s is_grid (corners last nowhere within) slot in
      let upto = hull_upto s last (omega arith) (omega (arith, some)) in
      omega (arith, small, upto)
