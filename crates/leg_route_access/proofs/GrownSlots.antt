-- What a flat with one shape more is open to: to what the flat is, and a flat of that shape alone.
use Rattle.std.proofs.Common.{◌≡◌, ℕ, ◌⊎◌, ◌↔◌, inl, inr, ℤ, List, [], ◌∷◌, Contains, sym, ap, subst, ◌∙◌, arith}
use Rattle.std.proofs.lemmas.List.Elements.{Contains-append_left, Contains-append_right, Contains-push_cases}
use Rattle.leg_geom.specs.Plane.{RectModel}
use Rattle.leg_lib_records.specs.declared.records.Direction.TheVariants.{Horizontal, Vertical}
use Rattle.leg_design_records.specs.declared.records.Wire.{Wire}
use Rattle.leg_design_records.specs.declared.records.Wire.TheVariants.{Segment, ViaAt, Patch}
use Rattle.leg_design_records.specs.Records.{DesignModel}
use Rattle.leg_rules.specs.declared.shape.Shape.{Shape}
use Rattle.leg_rules.specs.Metal.Flat.{FlatModel}
use Rattle.leg_rules.specs.declared.side.Side.{Side}
use Rattle.leg_rules.specs.declared.side.Side.TheVariants.{East, North, Above}
use Rattle.leg_wire_spacing.specs.declared.access.Access.{Access}
use Rattle.leg_wire_spacing.specs.Access.{alone}
use Rattle.leg_rules.specs.Spacing.Clean.{IsClean}
use Rattle.leg_rules.specs.declared.node.Node.{Node}
use Rattle.leg_route_access.specs.declared.slot_access.SlotAccess.{SlotAccess}
use Rattle.leg_rules.specs.Route.StepWires.{half, square, NodeAdds, StepAdds}
use Rattle.leg_rules.specs.Route.OpenMetal.{IsOpenWire, IsOpenNode, IsOpenStep}
use Rattle.leg_route_grid.specs.Steps.Grid.{GridModel, IsDesignGrid, IsNumberOf}
use Rattle.leg_route_grid.specs.Steps.NodeNumbers.{IsOneOf, IsNeighbourAt, IsOpenStepAt}
use Rattle.leg_route_access.specs.Steps.AccessTable.{AdmitsJust, IsOpenAlong, IsSlotAccess}
use Rattle.leg_route_access.specs.Steps.AccessUpdates.{IsBoth, HasShape}
use Rattle.leg_route_grid.proofs.GridSlots.{the_node, numbered, one_direction}
use Rattle.leg_route_grid.proofs.OpenNodes.{one_width}
use Rattle.leg_route_access.proofs.OpenSteps.{one_layer, other_layer, same_via, open_at}
use Rattle.leg_route_grid.proofs.StepsAt.{ends_are_nodes}

-- a node adds one wire
pub one_patch : (design : DesignModel) (node : Node) (wire other : Wire) → NodeAdds design node wire → NodeAdds design node other → wire ≡ other
one_patch design node wire other adds also =
    let wide : adds.width ≡ also.width = one_width design.library node.layer adds.direction also.direction adds.width also.width adds.runs also.runs in
    adds.is ∙ ap (λ (w : ℤ). Patch node.layer node.at (square (half w))) wide ∙ sym also.is

-- a step adds one wire
pub one_wire : (design : DesignModel) (a b : Node) (wire other : Wire) → StepAdds design a b wire → StepAdds design a b other → wire ≡ other
one_wire design a b wire other (inl line) (inl also) =
    let wide : line.line.width ≡ also.line.width =
    one_width design.library a.layer line.line.direction also.line.direction line.line.width also.line.width line.line.runs also.line.runs in
    line.line.is ∙ ap (λ (w : ℤ). Segment a.layer a.at b.at w (half w) (half w)) wide ∙ sym also.line.is
one_wire design a b wire other (inl line) (inr through) = absurd (other_layer design through.via a b through.over (one_layer design a b line.in_line))
one_wire design a b wire other (inr through) (inl line) = absurd (other_layer design through.via a b through.over (one_layer design a b line.in_line))
one_wire design a b wire other (inr through) (inr also) =
    through.is ∙ ap (λ (k : ℕ). ViaAt k a.at) (same_via design also.via through.via a b also.over through.over) ∙ sym also.is

module _ (design : DesignModel) (shape : Shape) (flat grown : FlatModel) (has : HasShape shape flat grown) (net : ℕ) where
  in_grown : (s : Shape) → Contains grown.shapes s → Contains flat.shapes s ⊎ (shape ≡ s)
  in_grown s there = Contains-push_cases flat.shapes shape s (rw has at there)

  abbrev the_shape : List Shape
  the_shape = shape ∷ []

  only : (s : Shape) → shape ≡ s → Contains the_shape s
  only s same = (0, omega arith, same)

  from_flat : (s : Shape) → Contains flat.shapes s → Contains grown.shapes s
  from_flat s there = rw has (Contains-append_left flat.shapes the_shape s there)

  from_shape : (s : Shape) → Contains the_shape s → Contains grown.shapes s
  from_shape s there = rw has (Contains-append_right flat.shapes the_shape s there)

  clean_grown : (layer : ℕ) (rect : RectModel) → IsClean design.library flat net layer rect → IsClean design.library (alone shape) net layer rect
      → IsClean design.library grown net layer rect
  clean_grown layer rect here beside =
      record { far = λ s there. elim (in_grown s there) [ inl old ↦ here.far s old | inr new ↦ beside.far s (only s new) ] }

  wire_grown : (wire : Wire) → IsOpenWire design flat net wire → IsOpenWire design (alone shape) net wire → IsOpenWire design grown net wire
  wire_grown wire here beside metal rect there points = clean_grown metal.layer rect (here metal rect there points) (beside metal rect there points)

  wire_flat : (wire : Wire) → IsOpenWire design grown net wire → IsOpenWire design flat net wire
  wire_flat wire is_open metal rect there points =
      let clean = is_open metal rect there points in
      record { far = λ s has. clean.far s (from_flat s has) }

  wire_alone : (wire : Wire) → IsOpenWire design grown net wire → IsOpenWire design (alone shape) net wire
  wire_alone wire is_open metal rect there points =
      let clean = is_open metal rect there points in
      record { far = λ s has. clean.far s (from_shape s has) }

  node_grown : (node : Node) → IsOpenNode design grown net node ↔ (IsOpenNode design flat net node × IsOpenNode design (alone shape) net node)
  node_grown node = (
    λ is_open. (
      record { is_node = is_open.is_node; wire = is_open.wire; adds = is_open.adds; clean = wire_flat is_open.wire is_open.clean },
      record { is_node = is_open.is_node; wire = is_open.wire; adds = is_open.adds; clean = wire_alone is_open.wire is_open.clean },
    ),
    λ both.
        let here = both.0 in
        let beside = both.1 in
        let P : Wire → Type 0 = λ wire. IsOpenWire design (alone shape) net wire in
        let other : IsOpenWire design (alone shape) net here.wire = subst P (one_patch design node beside.wire here.wire beside.adds here.adds) beside.clean in
        record { is_node = here.is_node; wire = here.wire; adds = here.adds; clean = wire_grown here.wire here.clean other },
  )

  step_grown : (a b : Node) → IsOpenStep design grown net a b ↔ (IsOpenStep design flat net a b × IsOpenStep design (alone shape) net a b)
  step_grown a b = (
    λ is_open. (
      record { wire = is_open.wire; adds = is_open.adds; clean = wire_flat is_open.wire is_open.clean },
      record { wire = is_open.wire; adds = is_open.adds; clean = wire_alone is_open.wire is_open.clean },
    ),
    λ both.
        let here = both.0 in
        let beside = both.1 in
        let P : Wire → Type 0 = λ wire. IsOpenWire design (alone shape) net wire in
        let other : IsOpenWire design (alone shape) net here.wire = subst P (one_wire design a b beside.wire here.wire beside.adds here.adds) beside.clean in
        record { wire = here.wire; adds = here.adds; clean = wire_grown here.wire here.clean other },
  )

-- what is clean in a flat is clean beside one of its shapes
wire_only : (design : DesignModel) (shape : Shape) (flat : FlatModel) → Contains flat.shapes shape → (net : ℕ) (wire : Wire) → IsOpenWire design flat net wire
    → IsOpenWire design (alone shape) net wire
wire_only design shape flat there net wire is_open metal rect has points =
    let clean = is_open metal rect has points in
    record { far = λ s only. clean.far s (one s only) } where
      one : (s : Shape) → Contains (shape ∷ []) s → Contains flat.shapes s
      one s only = elim (Contains-push_cases [] shape s only) [ inl none ↦ absurd (omega (arith, none.1)) | inr same ↦ rw (← same) there ]

module _ (grid : GridModel) (is_grid : IsDesignGrid grid) (n : ℕ) where
  -- the node on the side of an open step
  pub beside_open : (side : Side) (flat : FlatModel) (net : ℕ) (step : IsOpenStepAt grid flat net side n)
      → (m : ℕ) × IsNumberOf grid m step.b × IsNeighbourAt grid side n m
  beside_open side flat net step =
      let to = numbered grid is_grid step.b (ends_are_nodes grid.design side step.a step.b step.beside).1 in
      (to.0, to.1, record { a = step.a; b = step.b; a_is = step.a_is; b_is = to.1; step = step.beside })

  module _ (shape : Shape) (flat grown : FlatModel) (has : HasShape shape flat grown) (net : ℕ) where
    abbrev AreBoth : (FlatModel → Type 0) → Type 0
    AreBoth P = P grown ↔ (P flat × P (alone shape))

    one_grown : AreBoth (λ flat. IsOneOf (IsNumberOf grid) (IsOpenNode grid.design flat net) n)
    one_grown = (
      λ one.
          let both = (node_grown grid.design shape flat grown has net one.node).0 one.holds in
          (record { node = one.node; is = one.is; holds = both.0 }, record { node = one.node; is = one.is; holds = both.1 }),
      λ both.
          let here = both.0 in
          let beside = both.1 in
          let P : Node → Type 0 = λ node. IsOpenNode grid.design (alone shape) net node in
          let other : IsOpenNode grid.design (alone shape) net here.node = subst P (the_node grid n beside.node here.node beside.is here.is) beside.holds in
          record { node = here.node; is = here.is; holds = (node_grown grid.design shape flat grown has net here.node).1 (here.holds, other) },
    )

    step_at_grown : (side : Side) → AreBoth (λ flat. IsOpenStepAt grid flat net side n)
    step_at_grown side = (
      λ step.
          let both = (step_grown grid.design shape flat grown has net step.a step.b).0 step.is_open in (
            record { a = step.a; b = step.b; a_is = step.a_is; beside = step.beside; is_open = both.0 },
            record { a = step.a; b = step.b; a_is = step.a_is; beside = step.beside; is_open = both.1 },
          ),
      λ both.
          let here = both.0 in
          let to = beside_open side flat net here in
          let other = (open_at grid is_grid side n to.0 here.a here.b here.a_is to.1 (alone shape) net to.2).0 both.1 in
          record {
            a = here.a;
            b = here.b;
            a_is = here.a_is;
            beside = here.beside;
            is_open = (step_grown grid.design shape flat grown has net here.a here.b).1 (here.is_open, other);
          },
    )

    turned_here : (first second : FlatModel) → IsOpenStepAt grid first net East n → IsOpenStepAt grid second net North n → ⊥
    turned_here first second east north =
        let same : east.a ≡ north.a = the_node grid n east.a north.a east.a_is north.a_is in
        let layers : east.a.layer ≡ north.a.layer = ap (λ (a : Node). a.layer) same in
        let level = east.beside.horizontal in
        let upright = north.beside.vertical in
        not_both (one_direction grid.design.library north.a.layer Horizontal Vertical east.beside.width north.beside.width (rw layers at level) upright) where
          not_both : Horizontal ≡ Vertical → ⊥
          not_both e = cc

    along_grown : AreBoth (λ flat. IsOpenAlong grid flat net n)
    along_grown = (
      elim [
        | inl east ↦ let both = (step_at_grown East).0 east in (inl both.0, inl both.1)
        | inr north ↦ let both = (step_at_grown North).0 north in (inr both.0, inr both.1)
      ],
      λ both. by both.0 both.1,
    ) where
      by : IsOpenAlong grid flat net n → IsOpenAlong grid (alone shape) net n → IsOpenAlong grid grown net n
      by (inl east) (inl also) = inl ((step_at_grown East).1 (east, also))
      by (inl east) (inr north) = absurd (turned_here flat (alone shape) east north)
      by (inr north) (inl east) = absurd (turned_here (alone shape) flat east north)
      by (inr north) (inr also) = inr ((step_at_grown North).1 (north, also))

told_both : (P Q R : ℕ → Type 0) (a b c : Access) → IsBoth a b c → AdmitsJust a P → AdmitsJust b Q → ((net : ℕ) → R net ↔ (P net × Q net)) → AdmitsJust c R
told_both P Q R a b c is_both tells_p tells_q both net = (
  λ admits.
      let each = (is_both net).0 admits in
      (both net).1 ((tells_p net).0 each.0, (tells_q net).0 each.1),
  λ holds.
      let each = (both net).0 holds in
      (is_both net).1 ((tells_p net).1 each.0, (tells_q net).1 each.1),
)

told_same : (P Q : ℕ → Type 0) (a : Access) → AdmitsJust a P → ((net : ℕ) → P net → Q net) → ((net : ℕ) → Q net → P net) → AdmitsJust a Q
told_same P Q a tells to from net = (λ admits. to net ((tells net).0 admits), λ holds. (tells net).1 (from net holds))

-- the slot's node and the steps from it are as open in the flat of the shape alone as in the other
pub record IsFarFrom (grid : GridModel) (shape : Shape) (n : ℕ) (flat : FlatModel) (net : ℕ) : Type 0 where
  pub node : IsOneOf (IsNumberOf grid) (IsOpenNode grid.design flat net) n → IsOneOf (IsNumberOf grid) (IsOpenNode grid.design (alone shape) net) n
  pub along : IsOpenAlong grid flat net n → IsOpenAlong grid (alone shape) net n
  pub above : IsOpenStepAt grid flat net Above n → IsOpenStepAt grid (alone shape) net Above n

-- a slot, and the steps from it, admit those nets that both of two others admit
pub record AdmitBoth (a b c : SlotAccess) : Type 0 where
  pub node : IsBoth a.node b.node c.node
  pub along : IsBoth a.along b.along c.along
  pub above : IsBoth a.above b.above c.above

module _ (grid : GridModel) (is_grid : IsDesignGrid grid) (n : ℕ) (shape : Shape) (flat grown : FlatModel) (has : HasShape shape flat grown) where
  -- what is told of the slot in the flat and beside the shape is both told of it in the grown flat
  pub tells_grown : (a b c : SlotAccess) → IsSlotAccess grid flat n a → IsSlotAccess grid (alone shape) n b → AdmitBoth a b c
      → IsSlotAccess grid grown n c
  tells_grown a b c here beside both = record {
    node = told_both _ _ _ a.node b.node c.node both.node here.node beside.node (λ net. one_grown grid is_grid n shape flat grown has net);
    along = told_both _ _ _ a.along b.along c.along both.along here.along beside.along (λ net. along_grown grid is_grid n shape flat grown has net);
    above = told_both _ _ _ a.above b.above c.above both.above here.above beside.above (λ net. step_at_grown grid is_grid n shape flat grown has net Above);
  }

  -- what is told of a slot far from the shape stays told
  pub tells_far : (a : SlotAccess) → ((net : ℕ) → IsFarFrom grid shape n flat net) → IsSlotAccess grid flat n a → IsSlotAccess grid grown n a
  tells_far a far here = record {
    node = told_same _ _ a.node here.node (λ net is_open. (one_grown grid is_grid n shape flat grown has net).1 (is_open, (far net).node is_open))
        (λ net is_open. ((one_grown grid is_grid n shape flat grown has net).0 is_open).0);
    along = told_same _ _ a.along here.along (λ net is_open. (along_grown grid is_grid n shape flat grown has net).1 (is_open, (far net).along is_open))
        (λ net is_open. ((along_grown grid is_grid n shape flat grown has net).0 is_open).0);
    above = told_same _ _ a.above here.above (λ net is_open. (step_at_grown grid is_grid n shape flat grown has net Above).1
        (is_open, (far net).above is_open)) (λ net is_open. ((step_at_grown grid is_grid n shape flat grown has net Above).0 is_open).0);
  }

  -- a shape that is there already takes away nothing
  pub tells_again : (a : SlotAccess) → Contains flat.shapes shape → IsSlotAccess grid flat n a → IsSlotAccess grid grown n a
  tells_again a there here = tells_far a (λ net. record {
    node = λ one. record {
      node = one.node;
      is = one.is;
      holds = record {
        is_node = one.holds.is_node;
        wire = one.holds.wire;
        adds = one.holds.adds;
        clean = wire_only grid.design shape flat there net one.holds.wire one.holds.clean;
      };
    };
    along = elim [ inl east ↦ inl (step_only net East east) | inr north ↦ inr (step_only net North north) ];
    above = step_only net Above;
  }) here where
    step_only : (net : ℕ) (side : Side) → IsOpenStepAt grid flat net side n → IsOpenStepAt grid (alone shape) net side n
    step_only net side step = record {
      a = step.a;
      b = step.b;
      a_is = step.a_is;
      beside = step.beside;
      is_open =
          record {
            wire = step.is_open.wire;
            adds = step.is_open.adds;
            clean = wire_only grid.design shape flat there net step.is_open.wire step.is_open.clean;
          };
    }
