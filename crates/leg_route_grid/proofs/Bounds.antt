-- Steps come one nearer at most.
use Rattle.std.proofs.Common.{◌≡◌, ℕ, ◌+◌, ◌*◌, ◌/◌, ◌%◌, ◌<◌, ◌≤◌, ◌⊎◌, inl, inr, List, [], ◌∷◌, ◌++◌, min, Contains, length, sym, ap, ◌∙◌, arith}
use Rattle.std.proofs.Math.Nat.{mul-le-mul_left, mul-le-mul_right, min-le_left, min-le_right}
use Rattle.std.proofs.lemmas.Nat.{div-mul-add, mod-mul-add}
use Rattle.leg_lemmas.proofs.Contents.{Contains-nil, Contains-here, Contains-there, Contains-cons_cases}
use Rattle.leg_rules.specs.declared.side.Side.{Side}
use Rattle.leg_rules.specs.declared.side.Side.TheVariants.{West, East, South, North, Below, Above}
use Rattle.leg_route_grid.specs.declared.slot.Slot.{Slot}
use Rattle.leg_route_grid.specs.declared.slot_box.SlotBox.{SlotBox}
use Rattle.leg_route_grid.specs.Steps.Grid.{GridModel, IsDesignGrid, IsSlot, slot_total}
use Rattle.leg_route_grid.specs.Steps.SlotNeighbours.{IsSlotNeighbour}
use Rattle.leg_route_grid.specs.Steps.NodeNumbers.{IsNeighbourAt}
use Rattle.leg_rules.specs.declared.grid_limits.TheConstants.{GREATEST_GRID}
use Rattle.leg_route_grid.specs.Steps.WalkBounds.{gap, slot_bound, nearest, slot_of, bound_at, IsBoxOf, IsInBox}
use Rattle.leg_route_grid.proofs.Slots.{by_division}
use Rattle.leg_route_grid.proofs.StepsAt.{step_from}

-- the slot of a number is told by division
pub record IsSlotOf (grid : GridModel) (n k j i : ℕ) : Type 0 where
  pub layer : n / length grid.xs / length grid.ys ≡ k
  pub row : n / length grid.xs % length grid.ys ≡ j
  pub column : n % length grid.xs ≡ i

pub slot_is : (grid : GridModel) (n k j i : ℕ) → IsSlot grid n k j i → IsSlotOf grid n k j i
slot_is grid n k j i slot =
    let lines : n / length grid.xs ≡ k * length grid.ys + j =
    ap (λ (m : ℕ). m / length grid.xs) slot.is ∙ div-mul-add (k * length grid.ys + j) (length grid.xs) i slot.column in
    record {
      layer = ap (λ (m : ℕ). m / length grid.ys) lines ∙ div-mul-add k (length grid.ys) j slot.row;
      row = ap (λ (m : ℕ). m % length grid.ys) lines ∙ mod-mul-add k (length grid.ys) j slot.row;
      column = ap (λ (m : ℕ). m % length grid.xs) slot.is ∙ mod-mul-add (k * length grid.ys + j) (length grid.xs) i slot.column;
    }

pub bound_is : (grid : GridModel) (boxes : List SlotBox) (n : ℕ) (s : Slot) → IsSlot grid n s.layer s.row s.column → bound_at grid boxes n ≡ nearest boxes s
bound_is grid boxes n s slot =
    let is = slot_is grid n s.layer s.row s.column slot in
    λ i. nearest boxes (record { layer = is.layer i; row = is.row i; column = is.column i })

-- no count of a grid's layers, rows and columns is above their product
pub record AreFew (limit layers rows columns : ℕ) : Type 0 where
  pub layers_few : layers ≤ limit
  pub rows_few : rows ≤ limit
  pub columns_few : columns ≤ limit

pub few_each : (limit layers rows columns : ℕ) → layers * rows * columns ≤ limit → 0 < layers → 0 < rows → 0 < columns → AreFew limit layers rows columns
few_each limit layers rows columns few l r c =
    let lines : (layers * rows) * 1 ≤ layers * rows * columns = mul-le-mul_left (layers * rows) c in
    let by_row : layers * 1 ≤ layers * rows = mul-le-mul_left layers r in
    let by_layer : 1 * rows ≤ layers * rows = mul-le-mul_right rows l in
    let some : 1 ≤ layers * rows = omega (arith, by_row) in
    let by_line : 1 * columns ≤ layers * rows * columns = mul-le-mul_right columns some in
    record { layers_few = omega (arith, lines, by_row); rows_few = omega (arith, lines, by_layer); columns_few = omega (arith, by_line) }

near : (low high a b : ℕ) → a ≤ b + 1 → b ≤ a + 1 → gap low high a ≤ gap low high b + 1
near low high a b less more = omega arith

same_gap : (low high a b : ℕ) → a ≡ b → gap low high a ≡ gap low high b
same_gap low high a b same = ap (gap low high) same

slots_near : (grid : GridModel) (ends : SlotBox) (side : Side) (s t : Slot) → IsSlotNeighbour grid side s t → slot_bound ends s ≤ slot_bound ends t + 1
slots_near grid ends West s t e =
    let n = near ends.low.column ends.high.column s.column t.column (omega (arith, e.next)) (omega (arith, e.next)) in
    let l = same_gap ends.low.layer ends.high.layer s.layer t.layer e.same_layer in
    let r = same_gap ends.low.row ends.high.row s.row t.row e.same_row in
    omega (arith, n, l, r)
slots_near grid ends East s t e =
    let n = near ends.low.column ends.high.column s.column t.column (omega (arith, e.next)) (omega (arith, e.next)) in
    let l = same_gap ends.low.layer ends.high.layer s.layer t.layer (sym e.same_layer) in
    let r = same_gap ends.low.row ends.high.row s.row t.row (sym e.same_row) in
    omega (arith, n, l, r)
slots_near grid ends South s t e =
    let n = near ends.low.row ends.high.row s.row t.row (omega (arith, e.next)) (omega (arith, e.next)) in
    let l = same_gap ends.low.layer ends.high.layer s.layer t.layer e.same_layer in
    let r = same_gap ends.low.column ends.high.column s.column t.column e.same_column in
    omega (arith, n, l, r)
slots_near grid ends North s t e =
    let n = near ends.low.row ends.high.row s.row t.row (omega (arith, e.next)) (omega (arith, e.next)) in
    let l = same_gap ends.low.layer ends.high.layer s.layer t.layer (sym e.same_layer) in
    let r = same_gap ends.low.column ends.high.column s.column t.column (sym e.same_column) in
    omega (arith, n, l, r)
slots_near grid ends Below s t e =
    let n = near ends.low.layer ends.high.layer s.layer t.layer (omega (arith, e.next)) (omega (arith, e.next)) in
    let l = same_gap ends.low.row ends.high.row s.row t.row e.same_row in
    let r = same_gap ends.low.column ends.high.column s.column t.column e.same_column in
    omega (arith, n, l, r)
slots_near grid ends Above s t e =
    let n = near ends.low.layer ends.high.layer s.layer t.layer (omega (arith, e.next)) (omega (arith, e.next)) in
    let l = same_gap ends.low.row ends.high.row s.row t.row (sym e.same_row) in
    let r = same_gap ends.low.column ends.high.column s.column t.column (sym e.same_column) in
    omega (arith, n, l, r)

least_near : (a b c d : ℕ) → a ≤ b + 1 → c ≤ d + 1 → min a c ≤ min b d + 1
least_near a b c d first rest = grind arith

nearest_near : (boxes : List SlotBox) (s t : Slot) → ((ends : SlotBox) → slot_bound ends s ≤ slot_bound ends t + 1) → nearest boxes s ≤ nearest boxes t + 1
nearest_near [] s t each = omega arith
nearest_near (ends ∷ boxes) s t each =
    least_near (slot_bound ends s) (slot_bound ends t) (nearest boxes s) (nearest boxes t) (each ends) (nearest_near boxes s t each)

-- a step comes one nearer at most
pub one_nearer : (grid : GridModel) (boxes : List SlotBox) (side : Side) (n to : ℕ) → IsDesignGrid grid → IsNeighbourAt grid side n to
    → bound_at grid boxes n ≤ bound_at grid boxes to + 1
one_nearer grid boxes side n to is_grid step =
    let number = step.a_is in
    let s : Slot = record { layer = number.k; row = number.j; column = number.i } in
    let from = step_from grid side n s to is_grid number.slot step in
    rw (bound_is grid boxes n s number.slot, bound_is grid boxes to from.t from.number)
    (nearest_near boxes s from.t (λ ends. slots_near grid ends side s from.t from.beside.beside))

gap_below : (n low high place : ℕ) → low < n → place < n → gap low high place < n
gap_below n low high place l p = omega arith

pub bound_small : (grid : GridModel) (ends : SlotBox) (n : ℕ) (s : Slot) → IsDesignGrid grid → IsBoxOf grid ends → IsSlot grid n s.layer s.row s.column
    → slot_bound ends s ≤ 50331648
bound_small grid ends n s is_grid box slot =
    let layer = slot.layer in
    let row = slot.row in
    let column = slot.column in
    let few = few_each 16777216 (length grid.layers) (length grid.ys) (length grid.xs) is_grid.few (omega arith) (omega arith) (omega arith) in
    let l = gap_below (length grid.layers) ends.low.layer ends.high.layer s.layer box.low.layer layer in
    let r = gap_below (length grid.ys) ends.low.row ends.high.row s.row box.low.row row in
    let c = gap_below (length grid.xs) ends.low.column ends.high.column s.column box.low.column column in
    omega (arith, few.layers_few, few.rows_few, few.columns_few, l, r, c)

min_upto : (a b c : ℕ) → b ≤ c → min a b ≤ min a c
min_upto a b c upto = grind arith

pub min_least : (a b c : ℕ) → a ≤ b → a ≤ c → a ≤ min b c
min_least a b c low lower = grind (arith, low, lower)

pub none_upto : (a b : ℕ) → a ≤ b → b ≡ 0 → a ≡ 0
none_upto a b upto none = omega arith

pub nearest_few : (boxes : List SlotBox) (s : Slot) → nearest boxes s ≤ GREATEST_GRID
nearest_few [] s = omega arith
nearest_few (ends ∷ boxes) s = let few = nearest_few boxes s in let least = min-le_right (slot_bound ends s) (nearest boxes s) in omega (arith, few, least)

least_none : (a b : ℕ) → min a b ≡ 0 → (a ≡ 0) ⊎ (b ≡ 0)
least_none a b none = grind (arith, none)

-- a slot that doesn't lie outside of a box lies in it
pub from_none : (ends : SlotBox) (s : Slot) → slot_bound ends s ≡ 0 → IsInBox ends s
from_none ends s none = record {
  low_layer = omega (arith, none);
  high_layer = omega (arith, none);
  low_row = omega (arith, none);
  high_row = omega (arith, none);
  low_column = omega (arith, none);
  high_column = omega (arith, none);
}

-- the number of a slot is that of the slot that division tells
pub slot_there : (grid : GridModel) (n : ℕ) → n < slot_total grid → IsSlot grid n (slot_of grid n).layer (slot_of grid n).row (slot_of grid n).column
slot_there grid n within =
    let parts = by_division (length grid.layers) (length grid.ys) (length grid.xs) n within in
    record { layer = parts.layer; row = parts.row; column = parts.column; is = parts.is }

-- a slot in a box doesn't lie outside
pub in_box : (ends : SlotBox) (s : Slot) → IsInBox ends s → slot_bound ends s ≡ 0
in_box ends s inside =
    let l : gap ends.low.layer ends.high.layer s.layer ≡ 0 = omega (arith, inside.low_layer, inside.high_layer) in
    let r : gap ends.low.row ends.high.row s.row ≡ 0 = omega (arith, inside.low_row, inside.high_row) in
    let c : gap ends.low.column ends.high.column s.column ≡ 0 = omega (arith, inside.low_column, inside.high_column) in
    omega (arith, l, r, c)

-- the nearest box is no farther than each
pub nearest_upto : (boxes : List SlotBox) (ends : SlotBox) (s : Slot) → Contains boxes ends → nearest boxes s ≤ slot_bound ends s
nearest_upto [] ends s has = absurd (Contains-nil ends has)
nearest_upto (first ∷ boxes) ends s has = elim (Contains-cons_cases first boxes ends has) [
  | inl same ↦ rw (← same) (min-le_left (slot_bound first s) (nearest boxes s))
  | inr rest ↦ let near = nearest_upto boxes ends s rest in let least = min-le_right (slot_bound first s) (nearest boxes s) in omega (arith, near, least)
]

-- where none is left to the nearest of the boxes, none is left to one of them
pub nearest_none : (boxes : List SlotBox) (s : Slot) → nearest boxes s ≡ 0 → (ends : SlotBox) × Contains boxes ends × (slot_bound ends s ≡ 0)
nearest_none [] s none = absurd (omega (arith, none))
nearest_none (first ∷ boxes) s none = elim (least_none (slot_bound first s) (nearest boxes s) none) [
  | inl here ↦ (first, Contains-here first boxes, here)
  | inr there ↦ let rest = nearest_none boxes s there in (rest.0, Contains-there first boxes rest.0 rest.1, rest.2)
]

-- with more boxes the nearest is no farther
pub nearest_first : (boxes more : List SlotBox) (s : Slot) → nearest (boxes ++ more) s ≤ nearest boxes s
nearest_first [] more s = nearest_few more s
nearest_first (ends ∷ boxes) more s = min_upto (slot_bound ends s) (nearest (boxes ++ more) s) (nearest boxes s) (nearest_first boxes more s)

-- what is no farther than the nearest of some boxes, and of some more, is no farther than the nearest of all
pub nearest_both : (boxes more : List SlotBox) (s : Slot) (steps : ℕ) → steps ≤ nearest boxes s → steps ≤ nearest more s → steps ≤ nearest (boxes ++ more) s
nearest_both [] more s steps first rest = rest
nearest_both (ends ∷ boxes) more s steps first rest =
    let left = min-le_left (slot_bound ends s) (nearest boxes s) in
    let right = min-le_right (slot_bound ends s) (nearest boxes s) in
    let both = nearest_both boxes more s steps (omega (arith, first, right)) rest in
    min_least steps (slot_bound ends s) (nearest (boxes ++ more) s) (omega (arith, first, left)) both

pub in_boxes : (grid : GridModel) (boxes : List SlotBox) (ends : SlotBox) (n : ℕ) (s : Slot) → IsSlot grid n s.layer s.row s.column → Contains boxes ends
    → IsInBox ends s → bound_at grid boxes n ≡ 0
in_boxes grid boxes ends n s slot has inside =
    let upto = nearest_upto boxes ends s has in
    let none : slot_bound ends s ≡ 0 = in_box ends s inside in
    let left : nearest boxes s ≡ 0 = none_upto (nearest boxes s) (slot_bound ends s) upto none in
    bound_is grid boxes n s slot ∙ left
