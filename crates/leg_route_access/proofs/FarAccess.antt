-- A slot far from a shape is open beside it as before.
use Rattle.std.proofs.Common.{◌≡◌, ℕ, ◌⊎◌, inl, inr, ℤ, Bool, sym, ap, subst, ◌∙◌, arith}
use Rattle.std.proofs.lemmas.Bool.{cases_eq}
use Rattle.std.proofs.lemmas.Option.{same_Some}
use Rattle.std.specs.Prelude.{Option}
use Rattle.leg_lib_records.specs.declared.records.Direction.{Direction}
use Rattle.leg_lib_records.specs.Sound.{IsSound}
use Rattle.leg_design_records.specs.declared.records.Wire.{Wire}
use Rattle.leg_rules.specs.declared.shape.Shape.{Shape}
use Rattle.leg_rules.specs.Metal.Flat.{FlatModel}
use Rattle.leg_rules.specs.declared.side.Side.TheVariants.{East, North, Above}
use Rattle.leg_wire_spacing.specs.Access.{alone}
use Rattle.leg_route_grid.specs.declared.layers.RoutingLayer.{RoutingLayer}
use Rattle.leg_rules.specs.Route.OpenMetal.{IsOpenWire}
use Rattle.leg_rules.specs.declared.node.Node.{Node}
use Rattle.leg_route_grid.specs.declared.slot.Slot.{Slot}
use Rattle.leg_rules.specs.Route.StepWires.{half, NodeAdds, StepAdds}
use Rattle.leg_route_grid.specs.Steps.SlotNeighbours.{IsEastOf, IsNorthOf}
use Rattle.leg_rules.specs.Route.Neighbours.{IsOver}
use Rattle.leg_rules.specs.Route.Tracks.{Runs}
use Rattle.leg_route_grid.specs.Steps.Grid.{GridModel, IsDesignGrid, IsSlot, IsNumberOf}
use Rattle.leg_route_grid.specs.Steps.NodeNumbers.{IsOpenStepAt}
use Rattle.leg_route_access.specs.Steps.Reaches.{Reaches, ReachesMetal, AreAlong, clear_at, one_if}
use Rattle.leg_route_grid.proofs.GridSlots.{lies_at, runs_there}
use Rattle.leg_route_grid.proofs.SlotSides.{beside_is}
use Rattle.leg_route_grid.proofs.OpenNodes.{one_width, runs_at_node, width_is}
use Rattle.leg_route_access.proofs.OpenSteps.{one_layer, other_layer, via_there, layer_above, said_there, stretch_east, stretch_north}
use Rattle.leg_route_access.proofs.FarSlots.{IsWireAround, patch_around, segment_around, via_around, IsHere, AreEnds, IsSlotPast, far_wire}
use Rattle.leg_route_access.proofs.GrownSlots.{beside_open, IsFarFrom}
use Rattle.leg_route_access.proofs.NoLoss.{step_elsewhere}
use Rattle.leg_route_access.proofs.NodeSides.{via_rises}

module _ (grid : GridModel) (is_grid : IsDesignGrid grid) (sound : IsSound grid.design.library) (n k j i : ℕ) (slot : IsSlot grid n k j i) (layer : ℕ)
    (reach : Option ℤ) (reaches : ReachesMetal grid k layer reach) (along_x along_y : Bool) (along : AreAlong grid k layer along_x along_y) where
  here_x : (a : Node) → IsNumberOf grid n a → IsHere grid.xs along_x i a.at.x
  here_x a number = record { m = i; upto = omega arith; there = (lies_at grid n k j i a slot number).x }

  here_y : (a : Node) → IsNumberOf grid n a → IsHere grid.ys along_y j a.at.y
  here_y a number = record { m = j; upto = omega arith; there = (lies_at grid n k j i a slot number).y }

  ends_here : (a : Node) → IsNumberOf grid n a → AreEnds grid along_x along_y j i a.at a.at
  ends_here a number =
      let lies = lies_at grid n k j i a slot number in
      record { x = lies.x; y = lies.y; x_end = here_x a number; y_end = here_y a number }

  -- half the width of the layer's wires
  line_reaches : (a : Node) → IsNumberOf grid n a → (direction : Direction) (width : ℤ) → Runs grid.design.library a.layer direction width → a.layer ≡ layer
      → Reaches reach (half width)
  line_reaches a number direction width runs on =
      let lies = lies_at grid n k j i a slot number in
      let own = lies.layer in
      let runs_own = runs_at_node grid k j i a own lies.there lies (runs_there grid is_grid k own lies.there) in
      let same : own.width ≡ width = one_width grid.design.library a.layer own.direction direction own.width width runs_own runs in
      let P : ℤ → Type 0 = λ w. Reaches reach (half w) in
      subst P same (reaches.line own lies.there (sym lies.on ∙ on))

  node_around : (a : Node) (wire : Wire) → IsNumberOf grid n a → NodeAdds grid.design a wire → IsWireAround grid.design layer reach a.at a.at wire
  node_around a wire number adds =
      let P : Wire → Type 0 = λ wire. IsWireAround grid.design layer reach a.at a.at wire in
      subst P (sym adds.is) (patch_around grid.design layer reach a.layer a.at adds.width (line_reaches a number adds.direction adds.width adds.runs))

  -- the next slot along
  abbrev from : Slot
  from = record { layer = k; row = j; column = i }

  module _ (flat : FlatModel) (net : ℕ) where
    east_ends : (step : IsOpenStepAt grid flat net East n) → step.a.layer ≡ layer → AreEnds grid along_x along_y j i step.a.at step.b.at
    east_ends step on =
        let to = beside_open grid is_grid n East flat net step in
        let number = to.1 in
        let t : Slot = record { layer = number.k; row = number.j; column = number.i } in
        let lies = lies_at grid n k j i step.a slot step.a_is in
        let east : IsEastOf grid from t = (beside_is grid East from t step.a step.b is_grid lies number.lies step.beside.a_is step.beside.b_is).1 step.beside in
        let next = east.next in
        let row = east.same_row in
        let own : lies.layer ≡ east.layer = same_Some lies.layer east.layer (sym lies.there ∙ east.there) in
        let set = along.x east.layer east.there (sym (ap (λ (l : RoutingLayer). l.number) own) ∙ sym lies.on ∙ on) east.horizontal in
        let one : one_if along_x ≡ 1 = ap one_if set in
        record {
          x = lies.x;
          y = lies.y;
          x_end = record { m = number.i; upto = omega (arith, next, one); there = number.lies.x };
          y_end = record { m = number.j; upto = omega (arith, row); there = number.lies.y };
        }

    north_ends : (step : IsOpenStepAt grid flat net North n) → step.a.layer ≡ layer → AreEnds grid along_x along_y j i step.a.at step.b.at
    north_ends step on =
        let to = beside_open grid is_grid n North flat net step in
        let number = to.1 in
        let t : Slot = record { layer = number.k; row = number.j; column = number.i } in
        let lies = lies_at grid n k j i step.a slot step.a_is in
        let north : IsNorthOf grid from t =
        (beside_is grid North from t step.a step.b is_grid lies number.lies step.beside.a_is step.beside.b_is).1 step.beside in
        let next = north.next in
        let column = north.same_column in
        let own : lies.layer ≡ north.layer = same_Some lies.layer north.layer (sym lies.there ∙ north.there) in
        let set = along.y north.layer north.there (sym (ap (λ (l : RoutingLayer). l.number) own) ∙ sym lies.on ∙ on) north.vertical in
        let one : one_if along_y ≡ 1 = ap one_if set in
        record {
          x = lies.x;
          y = lies.y;
          x_end = record { m = number.i; upto = omega (arith, column); there = number.lies.x };
          y_end = record { m = number.j; upto = omega (arith, next, one); there = number.lies.y };
        }

    east_around : (step : IsOpenStepAt grid flat net East n) (wire : Wire) → StepAdds grid.design step.a step.b wire
        → IsWireAround grid.design layer reach step.a.at step.b.at wire
    east_around step wire (inl along) =
        let line = along.line in
        let P : Wire → Type 0 = λ wire. IsWireAround grid.design layer reach step.a.at step.b.at wire in
        subst P (sym line.is) (segment_around grid.design layer reach step.a.layer step.a.at step.b.at line.width
        (width_is grid.design.library step.a.layer line.direction line.width sound line.runs)
        (stretch_east grid.design step.a step.b step.beside) (line_reaches step.a step.a_is line.direction line.width line.runs))
    east_around step wire (inr through) = absurd (other_layer grid.design through.via step.a step.b through.over (sym step.beside.layer))

    north_around : (step : IsOpenStepAt grid flat net North n) (wire : Wire) → StepAdds grid.design step.a step.b wire
        → IsWireAround grid.design layer reach step.a.at step.b.at wire
    north_around step wire (inl along) =
        let line = along.line in
        let P : Wire → Type 0 = λ wire. IsWireAround grid.design layer reach step.a.at step.b.at wire in
        subst P (sym line.is) (segment_around grid.design layer reach step.a.layer step.a.at step.b.at line.width
        (width_is grid.design.library step.a.layer line.direction line.width sound line.runs)
        (stretch_north grid.design step.a step.b step.beside) (line_reaches step.a step.a_is line.direction line.width line.runs))
    north_around step wire (inr through) = absurd (other_layer grid.design through.via step.a step.b through.over (sym step.beside.layer))

    above_around : (step : IsOpenStepAt grid flat net Above n) (wire : Wire) → StepAdds grid.design step.a step.b wire
        → IsWireAround grid.design layer reach step.a.at step.a.at wire
    above_around step wire (inl along) =
        absurd (other_layer grid.design step.beside.0 step.a step.b (inl step.beside.1) (one_layer grid.design step.a step.b along.in_line))
    above_around step wire (inr through) = by through.over where
      by : IsOver grid.design through.via step.a step.b ⊎ IsOver grid.design through.via step.b step.a
          → IsWireAround grid.design layer reach step.a.at step.a.at wire
      by (inl up) =
          let to = beside_open grid is_grid n Above flat net step in
          let there = via_there grid n to.0 through.via from step.a step.b is_grid slot step.a_is to.1 up in
          let said = said_there grid.design.library step.a.layer step.b.layer through.via up.via_is in
          let P : Wire → Type 0 = λ wire. IsWireAround grid.design layer reach step.a.at step.a.at wire in
          let above = layer_above grid n to.0 through.via from step.a step.b is_grid slot step.a_is to.1 up in
          subst P (sym through.is) (via_around grid.design layer reach through.via step.a.at said.said said.there
          (reaches.via through.via said.said above.0 above.1 there said.there))
      by (inr down) =
          let rises = via_rises grid.design.library step.a.layer step.b.layer step.beside.0 step.beside.1.via_is in
          let falls = via_rises grid.design.library step.b.layer step.a.layer through.via down.via_is in
          absurd (omega (arith, rises, falls))

-- what is told of a slot past the reach of its metal
module _ (grid : GridModel) (is_grid : IsDesignGrid grid) (sound : IsSound grid.design.library) (shape : Shape) (n k j i : ℕ) (slot : IsSlot grid n k j i)
    (reach : Option ℤ) (reaches : ReachesMetal grid k shape.layer reach)
    (along_x along_y : Bool) (along : AreAlong grid k shape.layer along_x along_y)
    (past : IsSlotPast grid along_x along_y j i shape.rect reach (clear_at grid.design.library shape.layer)) (flat : FlatModel) (net : ℕ) where
  east_wire : (step : IsOpenStepAt grid flat net East n) → IsOpenWire grid.design (alone shape) net step.is_open.wire
  east_wire step = elim (cases_eq step.a.layer shape.layer) [
    | inl same ↦
        far_wire grid along_x along_y j i shape step.a.at step.b.at
        (east_ends grid is_grid sound n k j i slot shape.layer reach reaches along_x along_y along flat net step same) reach past step.is_open.wire
        (east_around grid is_grid sound n k j i slot shape.layer reach reaches along_x along_y along flat net step step.is_open.wire step.is_open.adds) net
    | inr other ↦ step_elsewhere grid.design shape net step.a step.b step.is_open.wire (sym step.beside.layer) other step.is_open.adds
  ]

  north_wire : (step : IsOpenStepAt grid flat net North n) → IsOpenWire grid.design (alone shape) net step.is_open.wire
  north_wire step = elim (cases_eq step.a.layer shape.layer) [
    | inl same ↦
        far_wire grid along_x along_y j i shape step.a.at step.b.at
        (north_ends grid is_grid sound n k j i slot shape.layer reach reaches along_x along_y along flat net step same) reach past step.is_open.wire
        (north_around grid is_grid sound n k j i slot shape.layer reach reaches along_x along_y along flat net step step.is_open.wire step.is_open.adds) net
    | inr other ↦ step_elsewhere grid.design shape net step.a step.b step.is_open.wire (sym step.beside.layer) other step.is_open.adds
  ]

  pub far_access : IsFarFrom grid shape n flat net
  far_access = record {
    node = λ one. record {
      node = one.node;
      is = one.is;
      holds = record {
        is_node = one.holds.is_node;
        wire = one.holds.wire;
        adds = one.holds.adds;
        clean = far_wire grid along_x along_y j i shape one.node.at one.node.at
            (ends_here grid is_grid sound n k j i slot shape.layer reach reaches along_x along_y along one.node one.is) reach past one.holds.wire
            (node_around grid is_grid sound n k j i slot shape.layer reach reaches along_x along_y along one.node one.holds.wire one.is one.holds.adds) net;
      };
    };
    along = elim [
      | inl east ↦
          inl (record {
            a = east.a;
            b = east.b;
            a_is = east.a_is;
            beside = east.beside;
            is_open = record { wire = east.is_open.wire; adds = east.is_open.adds; clean = east_wire east };
          })
      | inr north ↦
          inr (record {
            a = north.a;
            b = north.b;
            a_is = north.a_is;
            beside = north.beside;
            is_open = record { wire = north.is_open.wire; adds = north.is_open.adds; clean = north_wire north };
          })
    ];
    above = λ step. record {
      a = step.a;
      b = step.b;
      a_is = step.a_is;
      beside = step.beside;
      is_open = record {
        wire = step.is_open.wire;
        adds = step.is_open.adds;
        clean = far_wire grid along_x along_y j i shape step.a.at step.a.at
            (ends_here grid is_grid sound n k j i slot shape.layer reach reaches along_x along_y along step.a step.a_is) reach past step.is_open.wire
            (above_around grid is_grid sound n k j i slot shape.layer reach reaches along_x along_y along flat net step step.is_open.wire
            step.is_open.adds) net;
      };
    };
  }
