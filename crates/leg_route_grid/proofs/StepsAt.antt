-- Steps from node to node, and from slot to slot, by numbers.
use Rattle.std.proofs.Common.{◌≡◌, ℕ, ◌<◌, ◌↔◌, inl, inr, List, length, None, Some, slice_get, refl, sym, ap, subst, ◌∙◌, arith}
use Rattle.std.proofs.lemmas.Option.{slice_get_cases, same_Some, none-some}
use Rattle.leg_design_records.specs.Records.{DesignModel}
use Rattle.leg_rules.specs.declared.side.Side.{Side}
use Rattle.leg_rules.specs.declared.side.Side.TheVariants.{West, East, South, North, Below, Above}
use Rattle.leg_rules.specs.declared.node.Node.{Node}
use Rattle.leg_route_grid.specs.declared.slot.Slot.{Slot}
use Rattle.leg_rules.specs.Route.Nodes.{IsNode}
use Rattle.leg_rules.specs.Route.Neighbours.{IsNeighbour}
use Rattle.leg_route_grid.specs.Steps.Grid.{GridModel, IsDesignGrid, IsSlot, LiesAt}
use Rattle.leg_route_grid.specs.Steps.SlotNeighbours.{IsSlotIn, IsSlotNeighbour}
use Rattle.leg_route_grid.specs.Steps.NodeNumbers.{IsNeighbourAt}
use Rattle.leg_route_grid.specs.Steps.SlotSides.{IsNeighbourWithin}
use Rattle.leg_route_grid.proofs.GridSlots.{lies_at}
use Rattle.leg_route_grid.proofs.SlotSides.{beside_is}

pub ends_are_nodes : (design : DesignModel) (side : Side) (a b : Node) → IsNeighbour design side a b → IsNode design a × IsNode design b
ends_are_nodes design West a b e = (e.b_is, e.a_is)
ends_are_nodes design East a b e = (e.a_is, e.b_is)
ends_are_nodes design South a b e = (e.b_is, e.a_is)
ends_are_nodes design North a b e = (e.a_is, e.b_is)
ends_are_nodes design Below a b e = (e.1.b_is, e.1.a_is)
ends_are_nodes design Above a b e = (e.1.a_is, e.1.b_is)

-- in each slot lies a point
pub record HasPointIn (grid : GridModel) (s : Slot) : Type 0 where
  pub node : Node
  pub lies : LiesAt grid s.layer s.row s.column node

pub record HasValue {T : Type 0} (list : List T) (i : ℕ) : Type 0 where
  pub value : T
  pub there : slice_get list i ≡ Some value

pub some_at : {T : Type 0} (list : List T) (i : ℕ) → i < length list → HasValue list i
some_at list i within = elim (slice_get_cases list i).1 [
  | inl some ↦ record { value = some.0; there = some.2 }
  | inr none ↦ absurd (omega (arith, none.0, within))
]

pub point_in : (grid : GridModel) (s : Slot) → IsSlotIn grid s → HasPointIn grid s
point_in grid s within =
    let layer = some_at grid.layers s.layer within.layer in
    let y = some_at grid.ys s.row within.row in
    let x = some_at grid.xs s.column within.column in
    record {
      node = record { layer = layer.value.number; at = record { x = x.value; y = y.value } };
      lies = record { layer = layer.value; there = layer.there; on = refl; y = y.there; x = x.there };
    }

same_slot : (s t : Slot) → s.layer ≡ t.layer → s.row ≡ t.row → s.column ≡ t.column → s ≡ t
same_slot s t layer row column = λ i. record { layer = layer i; row = row i; column = column i }

-- on a side lies one slot
pub one_beside : (grid : GridModel) (side : Side) (s t u : Slot) → IsSlotNeighbour grid side s t → IsSlotNeighbour grid side s u → t ≡ u
one_beside grid West s t u e f =
    same_slot t u (omega (arith, e.same_layer, f.same_layer)) (omega (arith, e.same_row, f.same_row)) (omega (arith, e.next, f.next))
one_beside grid East s t u e f =
    same_slot t u (omega (arith, e.same_layer, f.same_layer)) (omega (arith, e.same_row, f.same_row)) (omega (arith, e.next, f.next))
one_beside grid South s t u e f =
    same_slot t u (omega (arith, e.same_layer, f.same_layer)) (omega (arith, e.next, f.next)) (omega (arith, e.same_column, f.same_column))
one_beside grid North s t u e f =
    same_slot t u (omega (arith, e.same_layer, f.same_layer)) (omega (arith, e.next, f.next)) (omega (arith, e.same_column, f.same_column))
one_beside grid Below s t u e f =
    same_slot t u (omega (arith, e.next, f.next)) (omega (arith, e.same_row, f.same_row)) (omega (arith, e.same_column, f.same_column))
one_beside grid Above s t u e f =
    same_slot t u (omega (arith, e.next, f.next)) (omega (arith, e.same_row, f.same_row)) (omega (arith, e.same_column, f.same_column))

-- the step of nodes, as one of their slots
pub record IsStepFrom (grid : GridModel) (side : Side) (s : Slot) (to : ℕ) : Type 0 where
  pub t : Slot
  pub number : IsSlot grid to t.layer t.row t.column
  pub beside : IsNeighbourWithin grid side s t
  pub a : Node
  pub b : Node
  pub a_lies : LiesAt grid s.layer s.row s.column a
  pub b_lies : LiesAt grid t.layer t.row t.column b
  pub a_is : IsNode grid.design a
  pub b_is : IsNode grid.design b

pub step_from : (grid : GridModel) (side : Side) (n : ℕ) (s : Slot) (to : ℕ) → IsDesignGrid grid → IsSlot grid n s.layer s.row s.column
    → IsNeighbourAt grid side n to → IsStepFrom grid side s to
step_from grid side n s to is_grid at_n step =
    let ends = ends_are_nodes grid.design side step.a step.b step.step in
    let a_lies = lies_at grid n s.layer s.row s.column step.a at_n step.a_is in
    let number = step.b_is in
    let t : Slot = record { layer = number.k; row = number.j; column = number.i } in
    record {
      t = t;
      number = number.slot;
      beside = record {
        within = record { layer = number.slot.layer; row = number.slot.row; column = number.slot.column };
        beside = (beside_is grid side s t step.a step.b is_grid a_lies number.lies ends.0 ends.1).1 step.step;
      };
      a = step.a;
      b = step.b;
      a_lies = a_lies;
      b_lies = number.lies;
      a_is = ends.0;
      b_is = ends.1;
    }

module _ (grid : GridModel) (side : Side) (n : ℕ) (s : Slot) (is_grid : IsDesignGrid grid) (at_n : IsSlot grid n s.layer s.row s.column) where
  its_within : IsSlotIn grid s
  its_within = record { layer = at_n.layer; row = at_n.row; column = at_n.column }

  -- a slot without a node steps nowhere
  pub none_here : ((node : Node) → LiesAt grid s.layer s.row s.column node → ¬ IsNode grid.design node) → (to : ℕ) → ¬ IsNeighbourAt grid side n to
  none_here none to step = let from = step_from grid side n s to is_grid at_n step in none from.a from.a_lies from.a_is

  pub none_beside : ((t : Slot) → ¬ IsNeighbourWithin grid side s t) → (to : ℕ) → ¬ IsNeighbourAt grid side n to
  none_beside none to step = let from = step_from grid side n s to is_grid at_n step in none from.t from.beside

  module _ (t : Slot) (beside : IsNeighbourWithin grid side s t) where
    -- nor does it step to one
    pub none_there : ((node : Node) → LiesAt grid t.layer t.row t.column node → ¬ IsNode grid.design node) → (to : ℕ) → ¬ IsNeighbourAt grid side n to
    none_there none to step =
        let from = step_from grid side n s to is_grid at_n step in
        let same : from.t ≡ t = one_beside grid side s from.t t from.beside.beside beside.beside in
        let P : Slot → Type 0 = λ t. LiesAt grid t.layer t.row t.column from.b in
        none from.b (subst P same from.b_lies) from.b_is

    module _ (m : ℕ) (at_m : IsSlot grid m t.layer t.row t.column) where
      -- where nodes lie in both, it does
      pub steps_there : ((node : Node) → LiesAt grid s.layer s.row s.column node → IsNode grid.design node)
          → ((node : Node) → LiesAt grid t.layer t.row t.column node → IsNode grid.design node) → IsNeighbourAt grid side n m
      steps_there here there =
          let a = point_in grid s its_within in
          let b = point_in grid t beside.within in
          record {
            a = a.node;
            b = b.node;
            a_is = record { k = s.layer; j = s.row; i = s.column; slot = at_n; lies = a.lies };
            b_is = record { k = t.layer; j = t.row; i = t.column; slot = at_m; lies = b.lies };
            step = (beside_is grid side s t a.node b.node is_grid a.lies b.lies (here a.node a.lies) (there b.node b.lies)).0 beside.beside;
          }

      pub only_there : (to : ℕ) → IsNeighbourAt grid side n to → m ≡ to
      only_there to step =
          let from = step_from grid side n s to is_grid at_n step in
          let same : from.t ≡ t = one_beside grid side s from.t t from.beside.beside beside.beside in
          let P : Slot → Type 0 = λ t. IsSlot grid to t.layer t.row t.column in
          let at_to : IsSlot grid to t.layer t.row t.column = subst P same from.number in
          at_m.is ∙ sym at_to.is

-- what beside answers
pub none_is : (P : ℕ → Type 0) → ((to : ℕ) → ¬ P to) → (to : ℕ) → (None ≡ Some to) ↔ P to
none_is P none to = (λ e. absurd (none-some to e), λ is. absurd (none to is))

pub some_is : (P : ℕ → Type 0) (m : ℕ) → P m → ((to : ℕ) → P to → m ≡ to) → (to : ℕ) → (Some m ≡ Some to) ↔ P to
some_is P m is only to = (λ e. subst P (same_Some m to e) is, λ other. ap Some (only to other))
