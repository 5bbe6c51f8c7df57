-- Steps that are open, by the metal that they add.
use Rattle.std.proofs.Common.{◌≡◌, ℕ, ◌+◌, ◌⊎◌, ◌↔◌, inl, inr, ℤ, Some, slice_get, refl, sym, ap, subst, ◌∙◌, arith}
use Rattle.leg_lib_records.specs.declared.records.Direction.{Direction}
use Rattle.leg_lib_records.specs.Records.{LibraryModel, ViaModel}
use Rattle.leg_design_records.specs.declared.records.Wire.{Wire}
use Rattle.leg_design_records.specs.declared.records.Wire.TheVariants.{Segment, ViaAt}
use Rattle.leg_design_records.specs.Records.{DesignModel}
use Rattle.leg_rules.specs.Metal.Flat.{FlatModel}
use Rattle.leg_rules.specs.declared.side.Side.{Side}
use Rattle.leg_rules.specs.declared.side.Side.TheVariants.{West, East, South, North, Below, Above}
use Rattle.leg_route_search.specs.Steps.SideSteps.{IsStep}
use Rattle.leg_rules.specs.declared.node.Node.{Node}
use Rattle.leg_route_grid.specs.declared.layers.RoutingLayer.{RoutingLayer}
use Rattle.leg_route_grid.specs.declared.slot.Slot.{Slot}
use Rattle.leg_rules.specs.Route.Tracks.{Runs}
use Rattle.leg_rules.specs.Route.Between.{IsVia}
use Rattle.leg_rules.specs.Route.Neighbours.{IsEast, IsNorth, IsOver, IsNeighbour, IsInLine}
use Rattle.leg_rules.specs.Route.StepWires.{half, StepAdds}
use Rattle.leg_rules.specs.Route.OpenMetal.{IsOpenWire, IsOpenStep}
use Rattle.leg_route_grid.specs.Steps.Grid.{GridModel, IsDesignGrid, IsSlot, IsNumberOf}
use Rattle.leg_route_grid.specs.Steps.SlotNeighbours.{IsAboveOf}
use Rattle.leg_route_access.specs.Steps.Stretches.{IsStretch}
use Rattle.leg_route_grid.specs.Steps.NodeNumbers.{IsStepOf, IsNeighbourAt, IsOpenStepAt}
use Rattle.leg_route_grid.proofs.GridSlots.{the_node, numbered, lies_at}
use Rattle.leg_route_grid.proofs.OpenNodes.{one_width}
use Rattle.leg_route_grid.proofs.FirstVia.{one_via}
use Rattle.leg_route_grid.proofs.SlotSides.{beside_is}
use Rattle.leg_route_grid.proofs.StepsAt.{ends_are_nodes, one_beside, step_from}
use Rattle.leg_route_access.proofs.NodeSides.{via_rises}

pub one_layer : (design : DesignModel) (a b : Node) → IsInLine design a b → a.layer ≡ b.layer
one_layer design a b (inl (inl west)) = west.layer
one_layer design a b (inl (inr east)) = sym east.layer
one_layer design a b (inr (inl south)) = south.layer
one_layer design a b (inr (inr north)) = sym north.layer

-- a via goes to another layer
pub other_layer : (design : DesignModel) (via : ℕ) (a b : Node) → IsOver design via a b ⊎ IsOver design via b a → a.layer ≡ b.layer → ⊥
other_layer design via a b (inl up) same = let rises = via_rises design.library a.layer b.layer via up.via_is in omega (arith, rises, same)
other_layer design via a b (inr down) same = let rises = via_rises design.library b.layer a.layer via down.via_is in omega (arith, rises, same)

pub same_via : (design : DesignModel) (via other : ℕ) (a b : Node) → IsOver design via a b ⊎ IsOver design via b a
    → IsOver design other a b ⊎ IsOver design other b a → other ≡ via
same_via design via other a b (inl up) (inl also) = one_via design.library a.layer b.layer other via also.via_is up.via_is
same_via design via other a b (inr down) (inr also) = one_via design.library b.layer a.layer other via also.via_is down.via_is
same_via design via other a b (inl up) (inr also) =
    absurd (let rises = via_rises design.library a.layer b.layer via up.via_is in let falls = via_rises design.library b.layer a.layer other also.via_is in
    omega (arith, rises, falls))
same_via design via other a b (inr down) (inl also) =
    absurd (let falls = via_rises design.library b.layer a.layer via down.via_is in let rises = via_rises design.library a.layer b.layer other also.via_is in
    omega (arith, rises, falls))

module _ (design : DesignModel) (flat : FlatModel) (net : ℕ) (a b : Node) where
  abbrev pub line_of : ℤ → Wire
  line_of width = Segment a.layer a.at b.at width (half width) (half width)

  pub open_line : (direction : Direction) (width : ℤ) → IsInLine design a b → Runs design.library a.layer direction width
      → IsOpenStep design flat net a b ↔ IsOpenWire design flat net (line_of width)
  open_line direction width in_line runs = (
    λ is_open. by is_open.wire is_open.adds is_open.clean,
    λ clean. record {
      wire = line_of width;
      adds = inl
          (record { in_line = in_line; line = record { direction = direction; width = width; runs = runs; is = refl } });
      clean = clean;
    },
  ) where
    by : (wire : Wire) → StepAdds design a b wire → IsOpenWire design flat net wire → IsOpenWire design flat net (line_of width)
    by wire (inl along) clean =
        let line = along.line in
        let wide : line.width ≡ width = one_width design.library a.layer line.direction direction line.width width line.runs runs in
        let is : wire ≡ line_of width = line.is ∙ ap line_of wide in
        let P : Wire → Type 0 = λ wire. IsOpenWire design flat net wire in
        subst P is clean
    by wire (inr through) clean = absurd (other_layer design through.via a b through.over (one_layer design a b in_line))

  pub open_via : (via : ℕ) → IsOver design via a b ⊎ IsOver design via b a → IsOpenStep design flat net a b ↔ IsOpenWire design flat net (ViaAt via a.at)
  open_via via over = (
    λ is_open. by is_open.wire is_open.adds is_open.clean,
    λ clean. record { wire = ViaAt via a.at; adds = inr (record { via = via; over = over; is = refl }); clean = clean },
  ) where
    by : (wire : Wire) → StepAdds design a b wire → IsOpenWire design flat net wire → IsOpenWire design flat net (ViaAt via a.at)
    by wire (inl along) clean = absurd (other_layer design via a b over (one_layer design a b along.in_line))
    by wire (inr through) clean =
        let is : wire ≡ ViaAt via a.at = through.is ∙ ap (λ (k : ℕ). ViaAt k a.at) (same_via design via through.via a b over through.over) in
        let P : Wire → Type 0 = λ wire. IsOpenWire design flat net wire in
        subst P is clean

module _ (grid : GridModel) (is_grid : IsDesignGrid grid) (side : Side) (n : ℕ) where
  -- a node has one node on a side
  pub one_number_beside : (m to : ℕ) → IsNeighbourAt grid side n m → IsNeighbourAt grid side n to → m ≡ to
  one_number_beside m to first other =
      let number = first.a_is in
      let s : Slot = record { layer = number.k; row = number.j; column = number.i } in
      let f = step_from grid side n s m is_grid number.slot first in
      let o = step_from grid side n s to is_grid number.slot other in
      let same : o.t ≡ f.t = one_beside grid side s o.t f.t o.beside.beside f.beside.beside in
      let P : Slot → Type 0 = λ t. IsSlot grid to t.layer t.row t.column in
      let at_to : IsSlot grid to f.t.layer f.t.row f.t.column = subst P same o.number in
      f.number.is ∙ sym at_to.is

  module _ (next : ℕ) (a b : Node) (a_is : IsNumberOf grid n a) (b_is : IsNumberOf grid next b) where
    pub beside_nodes : IsNeighbourAt grid side n next → IsNeighbour grid.design side a b
    beside_nodes step = rw (the_node grid n step.a a step.a_is a_is, the_node grid next step.b b step.b_is b_is) at step.step

    -- the step on a side is open just where that to its node is
    pub open_at : (flat : FlatModel) (net : ℕ) → IsNeighbourAt grid side n next → IsOpenStepAt grid flat net side n ↔ IsOpenStep grid.design flat net a b
    open_at flat net step = (
      λ open_step.
          let from : open_step.a ≡ a = the_node grid n open_step.a a open_step.a_is a_is in
          let to = numbered grid is_grid open_step.b (ends_are_nodes grid.design side open_step.a open_step.b open_step.beside).1 in
          let m_is : to.0 ≡ next =
          one_number_beside to.0 next (record { a = open_step.a; b = open_step.b; a_is = open_step.a_is; b_is = to.1; step = open_step.beside }) step in
          let here : IsNumberOf grid next open_step.b = rw m_is at to.1 in
          let end : open_step.b ≡ b = the_node grid next open_step.b b here b_is in
          rw (from, end) at open_step.is_open,
      λ is_open. record { a = a; b = b; a_is = a_is; beside = beside_nodes step; is_open = is_open },
    )

moved_via : (library : LibraryModel) (low high l h k : ℕ) → l ≡ low → h ≡ high → IsVia library low high k → IsVia library l h k
moved_via library low high l h k from to leads = rw (from, to) leads

-- the via that leads up from a slot
pub via_there : (grid : GridModel) (n to via : ℕ) (s : Slot) (a b : Node) → IsDesignGrid grid → IsSlot grid n s.layer s.row s.column → IsNumberOf grid n a
    → IsNumberOf grid to b → IsOver grid.design via a b
    → slice_get grid.vias s.layer ≡ Some (Some via)
via_there grid n to via s a b is_grid at_n a_is b_is over =
    let t : Slot = record { layer = b_is.k; row = b_is.j; column = b_is.i } in
    let a_lies = lies_at grid n s.layer s.row s.column a at_n a_is in
    let both = beside_is grid Above s t a b is_grid a_lies b_is.lies over.a_is over.b_is in
    let above : IsAboveOf grid s t = both.1 (via, over) in
    let low = a_lies.layer in
    let high = b_is.lies.layer in
    let at_high : slice_get grid.layers (s.layer + 1) ≡ Some high = rw above.next at b_is.lies.there in
    let leads : IsVia grid.design.library low.number high.number above.via =
    is_grid.vias_are.each s.layer low high (Some above.via) a_lies.there at_high above.there in
    let same : above.via ≡ via =
    one_via grid.design.library a.layer b.layer above.via via
    (moved_via grid.design.library low.number high.number a.layer b.layer above.via a_lies.on b_is.lies.on leads) over.via_is in
    above.there ∙ ap (λ (k : ℕ). Some (Some k)) same

-- a routing layer to which it goes
pub layer_above : (grid : GridModel) (n to via : ℕ) (s : Slot) (a b : Node) → IsDesignGrid grid → IsSlot grid n s.layer s.row s.column → IsNumberOf grid n a
    → IsNumberOf grid to b → IsOver grid.design via a b
    → (high : RoutingLayer) × (slice_get grid.layers (s.layer + 1) ≡ Some high)
layer_above grid n to via s a b is_grid at_n a_is b_is over =
    let t : Slot = record { layer = b_is.k; row = b_is.j; column = b_is.i } in
    let a_lies = lies_at grid n s.layer s.row s.column a at_n a_is in
    let both = beside_is grid Above s t a b is_grid a_lies b_is.lies over.a_is over.b_is in
    let above : IsAboveOf grid s t = both.1 (via, over) in
    (b_is.lies.layer, rw above.next at b_is.lies.there)

-- the via of a step is one of the library
pub record IsThere (library : LibraryModel) (via : ℕ) : Type 0 where
  pub said : ViaModel
  pub there : slice_get library.vias via ≡ Some said

pub said_there : (library : LibraryModel) (low high via : ℕ) → IsVia library low high via → IsThere library via
said_there library low high via (inl first) = record { said = first.via; there = first.there }
said_there library low high via (inr other) = record { said = other.first.via; there = other.first.there }

pub stretch_east : (design : DesignModel) (a b : Node) → IsEast design a b → IsStretch a.at b.at
stretch_east design a b east = inl (record { level = sym east.level; less = east.next.less })

pub stretch_north : (design : DesignModel) (a b : Node) → IsNorth design a b → IsStretch a.at b.at
stretch_north design a b north = inr (record { upright = sym north.upright; less = north.next.less })

-- no step where there is no node on the side
pub no_step : (grid : GridModel) (is_grid : IsDesignGrid grid) (side : Side) (n : ℕ) (flat : FlatModel) (net : ℕ) → ((m : ℕ) → ¬ IsNeighbourAt grid side n m)
    → ¬ IsOpenStepAt grid flat net side n
no_step grid is_grid side n flat net none open_step =
    let to = numbered grid is_grid open_step.b (ends_are_nodes grid.design side open_step.a open_step.b open_step.beside).1 in
    none to.0 (record { a = open_step.a; b = open_step.b; a_is = open_step.a_is; b_is = to.1; step = open_step.beside })

module _ (grid : GridModel) (is_grid : IsDesignGrid grid) (side : Side) (n next : ℕ) (a b : Node) (a_is : IsNumberOf grid n a) (b_is : IsNumberOf grid next b)
    (step : IsNeighbourAt grid side n next) (design : DesignModel) (of_design : grid.design ≡ design) (flat : FlatModel) (net : ℕ) (Answer : Type 0) where
  same_wire : (wire : Wire) → IsOpenStepAt grid flat net side n ↔ IsOpenWire grid.design flat net wire → Answer ↔ IsOpenWire design flat net wire
      → Answer ↔ IsOpenStepAt grid flat net side n
  same_wire wire one other =
      let P : DesignModel → Type 0 = λ design. Answer ↔ IsOpenWire design flat net wire in
      let says = subst P (sym of_design) other in
      (λ is. one.1 (says.0 is), λ is_open. says.1 (one.0 is_open))

  pub line_answer : (direction : Direction) (width : ℤ) → IsInLine grid.design a b → Runs grid.design.library a.layer direction width
      → Answer ↔ IsOpenWire design flat net (line_of design flat net a b width) → Answer ↔ IsOpenStepAt grid flat net side n
  line_answer direction width in_line runs says =
      let here = open_at grid is_grid side n next a b a_is b_is flat net step in
      let line = open_line grid.design flat net a b direction width in_line runs in
      same_wire (line_of design flat net a b width) (λ is. line.0 (here.0 is), λ clean. here.1 (line.1 clean)) says

  pub via_answer : (via : ℕ) → IsOver grid.design via a b ⊎ IsOver grid.design via b a → Answer ↔ IsOpenWire design flat net (ViaAt via a.at)
      → Answer ↔ IsOpenStepAt grid flat net side n
  via_answer via over says =
      let here = open_at grid is_grid side n next a b a_is b_is flat net step in
      let through = open_via grid.design flat net a b via over in
      same_wire (ViaAt via a.at) (λ is. through.0 (here.0 is), λ clean. here.1 (through.1 clean)) says

side_of : (design : DesignModel) (a b : Node) (wire : Wire) → StepAdds design a b wire → (side : Side) × IsNeighbour design side a b
side_of design a b wire (inl along) = by along.in_line where
  by : IsInLine design a b → (side : Side) × IsNeighbour design side a b
  by (inl (inl west)) = (West, west)
  by (inl (inr east)) = (East, east)
  by (inr (inl south)) = (South, south)
  by (inr (inr north)) = (North, north)
side_of design a b wire (inr through) = by through.over where
  by : IsOver design through.via a b ⊎ IsOver design through.via b a → (side : Side) × IsNeighbour design side a b
  by (inl up) = (Above, (through.via, up))
  by (inr down) = (Below, (through.via, down))

-- an open step goes to some side, and an open step to a side is one
pub steps_have_sides : (grid : GridModel) (flat : FlatModel) (net m n : ℕ) → IsDesignGrid grid
    → IsStepOf (IsNumberOf grid) (IsOpenStep grid.design flat net) m n ↔ IsStep (IsNeighbourAt grid) (IsOpenStepAt grid flat net) m n
steps_have_sides grid flat net m n is_grid = (
  λ step.
      let side = side_of grid.design step.a step.b step.step.wire step.step.adds in (
        side.0,
        (
          record { a = step.a; b = step.b; a_is = step.a_is; b_is = step.b_is; step = side.1 },
          record { a = step.a; b = step.b; a_is = step.a_is; beside = side.1; is_open = step.step },
        ),
      ),
  λ step.
      let beside = step.1.0 in
      record {
        a = beside.a;
        b = beside.b;
        a_is = beside.a_is;
        b_is = beside.b_is;
        step = (open_at grid is_grid step.0 m n beside.a beside.b beside.a_is beside.b_is flat net beside).0 step.1.1;
      },
)
