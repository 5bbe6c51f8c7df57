-- The step along a slot's layer, to the east or to the north.
use Rattle.std.proofs.Common.{◌≡◌, ℕ, ◌↔◌, inl, inr, ℤ, Option, Some, None, refl, sym, ap, subst, ◌∙◌}
use Rattle.std.proofs.lemmas.Option.{same_Some, none-some}
use Rattle.std.specs.Option.{option_or}
use Rattle.leg_lib_records.specs.declared.records.Direction.{Direction}
use Rattle.leg_lib_records.specs.declared.records.Direction.TheVariants.{Horizontal, Vertical}
use Rattle.leg_lib_records.specs.declared.records.LayerKind.TheVariants.{Routing}
use Rattle.leg_lib_records.specs.declared.records.Layer.{Layer}
use Rattle.leg_lib_records.specs.Records.{LibraryModel}
use Rattle.leg_design_records.specs.Records.{DesignModel}
use Rattle.leg_rules.specs.Metal.Flat.{FlatModel}
use Rattle.leg_rules.specs.declared.side.Side.TheVariants.{East, North}
use Rattle.leg_rules.specs.declared.node.Node.{Node}
use Rattle.leg_rules.specs.Route.Tracks.{Runs}
use Rattle.leg_rules.specs.Route.Neighbours.{IsEast, IsNorth, IsInLine}
use Rattle.leg_rules.specs.Route.OpenMetal.{IsOpenWire}
use Rattle.leg_route_grid.specs.Steps.Grid.{GridModel, IsDesignGrid, IsNumberOf}
use Rattle.leg_route_grid.specs.Steps.NodeNumbers.{IsNeighbourAt, IsOpenStepAt}
use Rattle.leg_route_access.specs.Steps.AccessTable.{IsOpenAlong}
use Rattle.leg_route_access.specs.Steps.Stretches.{IsStretch}
use Rattle.leg_route_access.specs.Steps.AccessUpdates.{IsNextAlong, IsNextIfAny}
use Rattle.leg_route_grid.proofs.GridSlots.{the_node}
use Rattle.leg_route_access.proofs.OpenSteps.{line_of, beside_nodes, stretch_east, stretch_north, no_step, line_answer}

-- wires of a layer run one way
runs_one_way : (library : LibraryModel) (n : ℕ) (v w : ℤ) → Runs library n Horizontal v → Runs library n Vertical w → ⊥
runs_one_way library n v w level upright =
    let same : level.layer ≡ upright.layer = same_Some level.layer upright.layer (sym level.there ∙ upright.there) in
    let kinds : Routing Horizontal v ≡ Routing Vertical w = sym level.routes ∙ ap (λ (l : Layer). l.kind) same ∙ upright.routes in
    cc

-- so steps from a slot lead either to the east or to the north
not_both : (grid : GridModel) (n : ℕ) (a b c d : Node) → IsNumberOf grid n a → IsNumberOf grid n c → IsEast grid.design a b → IsNorth grid.design c d → ⊥
not_both grid n a b c d a_is c_is east north =
    let P : Node → Type 0 = λ node. Runs grid.design.library node.layer Vertical north.width in
    runs_one_way grid.design.library a.layer east.width north.width east.horizontal (subst P (the_node grid n c a c_is a_is) north.vertical)

-- no open step where there is no next slot
pub none_along : (grid : GridModel) (n : ℕ) (flat : FlatModel) (net : ℕ) → IsDesignGrid grid → ((m : ℕ) → ¬ IsNextAlong grid n m)
    → ¬ IsOpenAlong grid flat net n
none_along grid n flat net is_grid none = λ is_open. elim is_open [
  | inl east ↦ no_step grid is_grid East n flat net (λ m beside. none m (inl beside)) east
  | inr north ↦ no_step grid is_grid North n flat net (λ m beside. none m (inr beside)) north
]

-- the next slot is told by what lies on both sides
pub next_is : (grid : GridModel) (n : ℕ) (east north : Option ℕ) → ((to : ℕ) → (east ≡ Some to) ↔ IsNeighbourAt grid East n to)
    → ((to : ℕ) → (north ≡ Some to) ↔ IsNeighbourAt grid North n to)
    → IsNextIfAny grid n (option_or east north)
next_is grid n (Some m) north e o = inl ((e m).0 refl)
next_is grid n None (Some m) e o = inr ((o m).0 refl)
next_is grid n None None e o = λ m next. elim next [
  | inl east ↦ none-some m ((e m).1 east)
  | inr north ↦ none-some m ((o m).1 north)
]

module _ (grid : GridModel) (is_grid : IsDesignGrid grid) (n next : ℕ) where
  pub along_east : IsNeighbourAt grid East n next → (flat : FlatModel) (net : ℕ) → IsOpenAlong grid flat net n ↔ IsOpenStepAt grid flat net East n
  along_east step flat net = (
    λ is_open. elim is_open [
      | inl east ↦ east
      | inr north ↦ absurd (not_both grid n step.a step.b north.a north.b step.a_is north.a_is step.step north.beside)
    ],
    λ east. inl east,
  )

  pub along_north : IsNeighbourAt grid North n next → (flat : FlatModel) (net : ℕ) → IsOpenAlong grid flat net n ↔ IsOpenStepAt grid flat net North n
  along_north step flat net = (
    λ is_open. elim is_open [
      | inl east ↦ absurd (not_both grid n east.a east.b step.a step.b east.a_is step.a_is east.beside step.step)
      | inr north ↦ north
    ],
    λ north. inr north,
  )

  module _ (a b : Node) (a_is : IsNumberOf grid n a) (b_is : IsNumberOf grid next b) where
    pub next_stretch : IsNextAlong grid n next → IsStretch a.at b.at
    next_stretch (inl east) = stretch_east grid.design a b (beside_nodes grid is_grid East n next a b a_is b_is east)
    next_stretch (inr north) = stretch_north grid.design a b (beside_nodes grid is_grid North n next a b a_is b_is north)

    -- what tells whether the segment to the next slot is open tells it of the step
    module _ (design : DesignModel) (of_design : grid.design ≡ design) (flat : FlatModel) (net : ℕ) (Answer : Type 0) (direction : Direction) (width : ℤ)
        (runs : Runs grid.design.library a.layer direction width) where
      pub along_answer : IsNextAlong grid n next → Answer ↔ IsOpenWire design flat net (line_of design flat net a b width)
          → Answer ↔ IsOpenAlong grid flat net n
      along_answer (inl east) says =
          let in_line : IsInLine grid.design a b = inl (inr (beside_nodes grid is_grid East n next a b a_is b_is east)) in
          let step = line_answer grid is_grid East n next a b a_is b_is east design of_design flat net Answer direction width in_line runs says in
          let along = along_east east flat net in
          (λ is. along.1 (step.0 is), λ is_open. step.1 (along.0 is_open))
      along_answer (inr north) says =
          let in_line : IsInLine grid.design a b = inr (inr (beside_nodes grid is_grid North n next a b a_is b_is north)) in
          let step = line_answer grid is_grid North n next a b a_is b_is north design of_design flat net Answer direction width in_line runs says in
          let along = along_north north flat net in
          (λ is. along.1 (step.0 is), λ is_open. step.1 (along.0 is_open))
