-- Slots where no shape lies: each node and each step is open.
use Rattle.std.proofs.Common.{◌≡◌, ℕ, ◌+◌, ◌<◌, ◌/◌, ◌%◌, ◌⊎◌, ◌↔◌, inl, inr, IsTrue, Bool, false, true≢false, List, [], ◌∷◌, ◌++◌, Contains, length, length-append, Option, None, Some, slice_get, refl, sym, subst, ◌∙◌, arith}
use Rattle.std.specs.Prelude.{is_some}
use Rattle.std.proofs.lemmas.Option.{none-some, slice_get_within}
use Rattle.leg_design_records.specs.declared.records.Wire.{Wire}
use Rattle.leg_design_records.specs.declared.records.Wire.TheVariants.{Segment, ViaAt, Patch}
use Rattle.leg_design_records.specs.Records.{DesignModel}
use Rattle.leg_rules.specs.declared.shape.Shape.{Shape}
use Rattle.leg_rules.specs.Metal.Flat.{FlatModel}
use Rattle.leg_rules.specs.declared.side.Side.TheVariants.{East, North, Above}
use Rattle.leg_wire_spacing.specs.declared.access.Access.{Access}
use Rattle.leg_wire_spacing.specs.Access.{Admits}
use Rattle.leg_rules.specs.declared.node.Node.{Node}
use Rattle.leg_route_grid.specs.declared.slot.Slot.{Slot}
use Rattle.leg_route_access.specs.declared.slot_access.SlotAccess.{SlotAccess}
use Rattle.leg_rules.specs.Route.StepWires.{half, square}
use Rattle.leg_rules.specs.Route.Nodes.{IsNode}
use Rattle.leg_rules.specs.Route.OpenMetal.{IsOpenWire, IsOpenNode}
use Rattle.leg_route_grid.specs.Steps.Grid.{GridModel, IsDesignGrid, IsNumberOf, slot_total}
use Rattle.leg_route_grid.specs.Steps.NodeNumbers.{IsOneOf, IsNeighbourAt, IsOpenStepAt}
use Rattle.leg_route_access.specs.Steps.AccessTable.{AdmitsJust, IsOpenAlong, IsSlotAccess}
use Rattle.leg_route_access.specs.Steps.AccessUpdates.{IsNextAlong, IsNextIfAny}
use Rattle.leg_route_grid.proofs.GridSlots.{runs_there}
use Rattle.leg_route_grid.proofs.OpenNodes.{runs_at_node}
use Rattle.leg_route_access.proofs.OpenSteps.{no_step}
use Rattle.leg_route_access.proofs.StepsAlong.{none_along}
use Rattle.leg_route_grid.proofs.ListEnds.{IsOld, IsLast, read_pushed}
use Rattle.leg_route_grid.proofs.Slots.{by_division}
use Rattle.leg_route_grid.proofs.StepsAt.{point_in}

module _ (flat : FlatModel) (bare : flat.shapes ≡ []) where
  none_there : (s : Shape) → Contains flat.shapes s → ⊥
  none_there s there = let has : Contains [] s = rw bare at there in absurd (omega (arith, has.1))

  bare_wire : (design : DesignModel) (net : ℕ) (wire : Wire) → IsOpenWire design flat net wire
  bare_wire design net wire metal rect there points = record { far = λ s has. absurd (none_there s has) }

  module _ (grid : GridModel) (is_grid : IsDesignGrid grid) (n net : ℕ) where
    bare_node : (node : Node) → IsNumberOf grid n node → IsNode grid.design node → IsOneOf (IsNumberOf grid) (IsOpenNode grid.design flat net) n
    bare_node node number is_node =
        let own = number.lies.layer in
        let wire = Patch node.layer node.at (square (half own.width)) in
        record {
          node = node;
          is = number;
          holds = record {
            is_node = is_node;
            wire = wire;
            adds = record {
              direction = own.direction;
              width = own.width;
              runs = runs_at_node grid number.k number.j number.i node own number.lies.there number.lies
                  (runs_there grid is_grid number.k own number.lies.there);
              is = refl;
            };
            clean = bare_wire grid.design net wire;
          };
        }

    bare_east : (m : ℕ) → IsNeighbourAt grid East n m → IsOpenStepAt grid flat net East n
    bare_east m step =
        let east = step.step in
        let wire = Segment step.a.layer step.a.at step.b.at east.width (half east.width) (half east.width) in
        record {
          a = step.a;
          b = step.b;
          a_is = step.a_is;
          beside = east;
          is_open = record {
            wire = wire;
            adds = inl (record { in_line = inl (inr east); line = record { direction = _; width = east.width; runs = east.horizontal; is = refl } });
            clean = bare_wire grid.design net wire;
          };
        }

    bare_north : (m : ℕ) → IsNeighbourAt grid North n m → IsOpenStepAt grid flat net North n
    bare_north m step =
        let north = step.step in
        let wire = Segment step.a.layer step.a.at step.b.at north.width (half north.width) (half north.width) in
        record {
          a = step.a;
          b = step.b;
          a_is = step.a_is;
          beside = north;
          is_open = record {
            wire = wire;
            adds = inl (record { in_line = inr (inr north); line = record { direction = _; width = north.width; runs = north.vertical; is = refl } });
            clean = bare_wire grid.design net wire;
          };
        }

    bare_above : (m : ℕ) → IsNeighbourAt grid Above n m → IsOpenStepAt grid flat net Above n
    bare_above m step =
        let over = step.step in
        let wire = ViaAt over.0 step.a.at in
        record {
          a = step.a;
          b = step.b;
          a_is = step.a_is;
          beside = over;
          is_open = record { wire = wire; adds = inr (record { via = over.0; over = inl over.1; is = refl }); clean = bare_wire grid.design net wire };
        }

    bare_along : (m : ℕ) → IsNextAlong grid n m → IsOpenAlong grid flat net n
    bare_along m (inl east) = inl (bare_east m east)
    bare_along m (inr north) = inr (bare_north m north)

module _ (grid : GridModel) (is_grid : IsDesignGrid grid) (n : ℕ) (flat : FlatModel) (bare : flat.shapes ≡ []) where
  pub node_told : (access : Access) (set : Bool) (node : Node) → IsNumberOf grid n node
      → ((node : Node) → IsNumberOf grid n node → IsTrue set ↔ IsNode grid.design node) → ((net : ℕ) → Admits access net ↔ IsTrue set)
      → AdmitsJust access (λ net. IsOneOf (IsNumberOf grid) (IsOpenNode grid.design flat net) n)
  node_told access set node number is_node admits net = (
    λ free. bare_node flat bare grid is_grid n net node number ((is_node node number).0 ((admits net).0 free)),
    λ one. (admits net).1 ((is_node one.node one.is).1 one.holds.is_node),
  )

  no_free : (access : Access) (net : ℕ) → Admits access net ↔ IsTrue false → ¬ Admits access net
  no_free access net admits free = true≢false (sym (admits.0 free))

  pub along_told : (access : Access) (next : Option ℕ) → IsNextIfAny grid n next → ((net : ℕ) → Admits access net ↔ IsTrue (is_some next))
      → AdmitsJust access (λ net. IsOpenAlong grid flat net n)
  along_told access None none admits net = (
    λ free. absurd (no_free access net (admits net) free),
    λ is_open. absurd (none_along grid n flat net is_grid none is_open),
  )
  along_told access (Some m) along admits net = (λ free. bare_along flat bare grid is_grid n net m along, λ is_open. (admits net).1 refl)

  pub above_told : (access : Access) (next : Option ℕ) → ((m : ℕ) → (next ≡ Some m) ↔ IsNeighbourAt grid Above n m)
      → ((net : ℕ) → Admits access net ↔ IsTrue (is_some next)) → AdmitsJust access (λ net. IsOpenStepAt grid flat net Above n)
  above_told access None is admits net = (
    λ free. absurd (no_free access net (admits net) free),
    λ step. absurd (no_step grid is_grid Above n flat net (λ m beside. none-some m ((is m).1 beside)) step),
  )
  above_told access (Some m) is admits net = (λ free. bare_above flat bare grid is_grid n net m ((is m).0 refl), λ step. (admits net).1 refl)

-- in each slot lies a point
pub node_in : (grid : GridModel) (n : ℕ) → n < slot_total grid → (node : Node) × IsNumberOf grid n node
node_in grid n below =
    let parts = by_division (length grid.layers) (length grid.ys) (length grid.xs) n below in
    let s : Slot = record { layer = n / length grid.xs / length grid.ys; row = n / length grid.xs % length grid.ys; column = n % length grid.xs } in
    let point = point_in grid s (record { layer = parts.layer; row = parts.row; column = parts.column }) in (
      point.node,
      record {
        k = s.layer;
        j = s.row;
        i = s.column;
        slot = record { layer = parts.layer; row = parts.row; column = parts.column; is = parts.is };
        lies = point.lies;
      },
    )

-- the slots below this number are told, where no shape lies
pub record AreToldBelow (grid : GridModel) (n : ℕ) (slots : List SlotAccess) : Type 0 where
  pub count : length slots ≡ n
  pub told : (flat : FlatModel) → flat.shapes ≡ [] → (k : ℕ) (s : SlotAccess) → slice_get slots k ≡ Some s → IsSlotAccess grid flat k s

pub none_told_yet : (grid : GridModel) (slots : List SlotAccess) → slots ≡ [] → AreToldBelow grid 0 slots
none_told_yet grid slots none =
    rw none (record { count = refl; told = λ flat bare k s there. absurd (let within = slice_get_within [] k s there in omega (arith, within)) })

pub one_slot_more : (grid : GridModel) (n : ℕ) (slots : List SlotAccess) (slot : SlotAccess) → AreToldBelow grid n slots
    → ((flat : FlatModel) → flat.shapes ≡ [] → IsSlotAccess grid flat n slot) → AreToldBelow grid (n + 1) (slots ++ slot ∷ [])
one_slot_more grid n slots slot before tells = record {
  count = let count = before.count in omega (arith, count, length-append slots (slot ∷ []));
  told = λ flat bare k s there. by flat bare k s (read_pushed slots slot k s there);
} where
  by : (flat : FlatModel) → flat.shapes ≡ [] → (k : ℕ) (s : SlotAccess) → IsOld slots k s ⊎ IsLast slots slot k s → IsSlotAccess grid flat k s
  by flat bare k s (inl old) = before.told flat bare k s old.is
  by flat bare k s (inr last) =
      let at : n ≡ k = sym (last.last ∙ before.count) in
      let P : ℕ → Type 0 = λ k. IsSlotAccess grid flat k slot in
      let Q : SlotAccess → Type 0 = λ s. IsSlotAccess grid flat k s in
      subst Q last.is (subst P at (tells flat bare))
