-- The wires of a walk are clean where its nodes and steps are open.
use Rattle.std.proofs.Common.{◌≡◌, ◌≢◌, ℕ, ℤ, pos, ◌≤ℤ◌, List, [], ◌∷◌, ◌++◌, ◌⊎◌, inl, inr, All, negsuc, refl, sym, ap, ◌∙◌, subst, arith}
use Rattle.std.proofs.lemmas.Int.{ints}
use Rattle.std.proofs.lemmas.List.Elements.{All-contains, All-cons, All-nil}
use Rattle.leg_geom.specs.Plane.{PointModel}
use Rattle.leg_lib_records.specs.declared.records.Direction.{Direction}
use Rattle.leg_lib_records.specs.Sound.{IsSound, IsSoundLayer, HasWidth, IsWidth}
use Rattle.leg_design_records.specs.declared.records.Wire.{Wire}
use Rattle.leg_design_records.specs.declared.records.Wire.TheVariants.{Segment, ViaAt}
use Rattle.leg_design_records.specs.Records.{DesignModel}
use Rattle.leg_rules.specs.Metal.Flat.{FlatModel}
use Rattle.leg_rules.specs.declared.side.Side.{Side}
use Rattle.leg_rules.specs.Route.Walk.{Walk}
use Rattle.leg_rules.specs.Route.Walk.Walk.{here, on}
use Rattle.leg_rules.specs.declared.node.Node.{Node}
use Rattle.leg_rules.specs.Route.Tracks.{Runs}
use Rattle.leg_rules.specs.Route.Neighbours.{IsOver}
use Rattle.leg_rules.specs.Route.StepWires.{half, NodeAdds, StepAdds}
use Rattle.leg_rules.specs.Route.OpenMetal.{IsOpenWire, IsOpenNode, IsOpenStep}
use Rattle.leg_rules.specs.Route.Spelling.{IsOnLayer, IsStraight, Spells, AreWiresOf}
use Rattle.leg_rules.specs.Route.Spelling.IsStraight.{one, more}
use Rattle.leg_rules.specs.Route.Spelling.Spells.{done, through, along}
use Rattle.leg_rules.specs.Route.Spelling.AreWiresOf.{stays, goes}
use Rattle.leg_route_grid.proofs.OpenNodes.{one_width}
use Rattle.leg_route_access.proofs.OpenSteps.{other_layer}
use Rattle.leg_route_access.proofs.GrownSlots.{one_patch, one_wire}
use Rattle.leg_route_laws.specs.Lines.{EachStep, last_spot}
use Rattle.leg_lemmas.proofs.Places.{contains_at}
use Rattle.leg_route.proofs.GrownLaws.{RunOfCleanWires}
use Rattle.leg_route.proofs.StraightRuns.{points, beside_layer, straight_last, straight_ahead, straight_apart, straight_keeps, ahead_apart, in_line}

-- the width of a routing layer is above 0 and even
pub runs_width : (design : DesignModel) (number : ℕ) (direction : Direction) (width : ℤ) → IsSound design.library
    → Runs design.library number direction width → IsWidth width
runs_width design number direction width sound runs =
    let layer = All-contains IsSoundLayer design.library.layers runs.layer sound.layers (contains_at design.library.layers number runs.layer runs.there) in
    subst HasWidth runs.routes layer.width

-- half of a width isn't below 0
half_least : (width : ℤ) → IsWidth width → pos 0 ≤ℤ half width
half_least (pos a) is = omega (arith, ints)
half_least (negsuc a) is = absurd (let above = is.above in let e : ⊥ = omega (arith, ints) in e)

module _ (run_of_clean : RunOfCleanWires) (design : DesignModel) (flat : FlatModel) (net : ℕ) where
  abbrev Clean : Wire → Type 0
  Clean wire = IsOpenWire design flat net wire

  abbrev Step : Node → Node → Type 0
  Step a b = IsOpenStep design flat net a b

  -- all steps from a over these nodes are open
  abbrev AreSteps : Node → List Node → Type 0
  AreSteps a [] = Unit {0}
  AreSteps a (b ∷ nodes) = Step a b × AreSteps b nodes

  -- a walk from a has these nodes: a, and then others over which all steps are open
  abbrev GoesOver : Node → List Node → Type 0
  GoesOver a [] = ⊥
  GoesOver a (b ∷ nodes) = (a ≡ b) × IsOpenNode design flat net a × AreSteps a nodes

  goes_over : (a c : Node) (nodes : List Node) → Walk (IsOpenNode design flat net) Step a nodes c → GoesOver a nodes
  goes_over a c nodes (here is_open) = (refl, is_open, tt)
  goes_over a c nodes (on {b = b} {nodes = others} is_open step walk) = (refl, is_open, steps others (goes_over b c others walk)) where
    steps : (others : List Node) → GoesOver b others → AreSteps a others
    steps [] over = absurd over
    steps (d ∷ others) over = (subst (Step a) over.0 step, subst (λ n. AreSteps n others) over.0 over.2)

  -- the wire that a node adds is the one that was asked
  node_clean : (a : Node) (wire : Wire) → IsOpenNode design flat net a → NodeAdds design a wire → Clean wire
  node_clean a wire is_open adds = subst Clean (one_patch design a is_open.wire wire is_open.adds adds) is_open.clean

  -- the via of an open step is clean
  via_clean : (via : ℕ) (a b : Node) → IsOver design via a b ⊎ IsOver design via b a → Step a b → Clean (ViaAt via a.at)
  via_clean via a b over step =
      subst Clean (one_wire design a b step.wire (ViaAt via a.at) step.adds (inr (record { via = via; over = over; is = refl }))) step.clean

  -- the segment of an open step along a layer is clean
  line_clean : (layer : ℕ) (direction : Direction) (width : ℤ) (a b : Node) → a.layer ≡ layer → Runs design.library layer direction width → a.layer ≡ b.layer
      → Step a b → Clean (Segment layer a.at b.at width (half width) (half width))
  line_clean layer direction width a b is runs level step = by step.adds where
    by : StepAdds design a b step.wire → Clean (Segment layer a.at b.at width (half width) (half width))
    by (inr it) = absurd (other_layer design it.via a b it.over level)
    by (inl line) =
        let it = line.line in
        let width_is : it.width ≡ width =
        one_width design.library layer it.direction direction it.width width (subst (λ n. Runs design.library n it.direction it.width) is it.runs) runs in
        let same : step.wire ≡ Segment layer a.at b.at width (half width) (half width) =
        it.is ∙ ap (λ n. Segment n a.at b.at it.width (half it.width) (half it.width)) is ∙ ap (λ w. Segment layer a.at b.at w (half w) (half w)) width_is in
        subst Clean same step.clean

  module _ (side : Side) (on_layer : IsOnLayer side) (layer : ℕ) (direction : Direction) (width : ℤ) (runs : Runs design.library layer direction width) where
    abbrev IsCleanLine : PointModel → PointModel → Type 0
    IsCleanLine p q = Clean (Segment layer p q width (half width) (half width))

    run_clean : (a b : Node) (run : List Node) → a.layer ≡ layer → IsStraight design side a run b → AreSteps a run → EachStep IsCleanLine a.at (points run)
    run_clean a b run is (one beside) steps = (line_clean layer direction width a b is runs (sym (beside_layer design side a b on_layer beside)) steps.0, tt)
    run_clean a b run is (more {b = mid} {nodes = nodes} beside rest) steps =
        let level = beside_layer design side a mid on_layer beside in
        (line_clean layer direction width a mid is runs (sym level) steps.0, run_clean mid b nodes (level ∙ is) rest steps.1)

    whole_clean : (a b : Node) (run : List Node) → IsSound design.library → a.layer ≡ layer → IsStraight design side a run b → AreSteps a run
        → Clean (Segment layer a.at b.at width (half width) (half width))
    whole_clean a b run sound is straight steps =
        let is_width = runs_width design layer direction width sound runs in
        let last = straight_last design side on_layer a b run straight in
        let apart : a.at ≢ last_spot a.at (points run) =
        λ same. ahead_apart side a.at b.at (straight_ahead design side on_layer a b run straight) (same ∙ last) in
        let whole = run_of_clean design flat net layer width (half width) a.at (points run) is_width.even (half_least width is_width)
        (in_line side a.at (points run) on_layer (straight_keeps design side on_layer a b run straight)) apart
        (straight_apart design side on_layer a b run straight) (run_clean a b run is straight steps) in
        subst (λ q. Clean (Segment layer a.at q width (half width) (half width))) last whole

  -- a run of steps, and those behind it
  steps_first : (side : Side) (a b : Node) (run nodes : List Node) → IsStraight design side a run b → AreSteps a (run ++ nodes) → AreSteps a run
  steps_first side a b run nodes (one beside) steps = (steps.0, tt)
  steps_first side a b run nodes (more {b = mid} {nodes = others} beside rest) steps = (steps.0, steps_first side mid b others nodes rest steps.1)

  steps_then : (side : Side) (a b : Node) (run nodes : List Node) → IsStraight design side a run b → AreSteps a (run ++ nodes) → AreSteps b nodes
  steps_then side a b run nodes (one beside) steps = steps.1
  steps_then side a b run nodes (more {b = mid} {nodes = others} beside rest) steps = steps_then side mid b others nodes rest steps.1

  spelled_clean : IsSound design.library → (a : Node) (nodes : List Node) (wires : List Wire) → Spells design a nodes wires → AreSteps a nodes → All Clean wires
  spelled_clean sound a nodes wires done steps = All-nil Clean
  spelled_clean sound a nodes wires (through {b = b} {nodes = others} {wires = more_wires} via over rest) steps =
      All-cons Clean (ViaAt via a.at) more_wires (via_clean via a b over steps.0) (spelled_clean sound b others more_wires rest steps.1)
  spelled_clean sound a nodes wires (along {b = b} {nodes = others} {wire = wire} {wires = more_wires} side run on_layer straight ends line rest) steps =
      let first = steps_first side a b run others straight steps in
      let whole = whole_clean side on_layer a.layer line.direction line.width line.runs a b run sound refl straight first in
      All-cons Clean wire more_wires (subst Clean (sym line.is) whole)
      (spelled_clean sound b others more_wires rest (steps_then side a b run others straight steps))

  -- each wire of an open walk is clean
  pub walk_clean : IsSound design.library → (from to : Node) (nodes : List Node) (wires : List Wire) → Walk (IsOpenNode design flat net) Step from nodes to
      → AreWiresOf design nodes wires → All Clean wires
  walk_clean sound from to nodes wires walk (stays {a = a} {wire = wire} adds) =
      let over = goes_over from to (a ∷ []) walk in
      All-cons Clean wire [] (node_clean a wire (subst (IsOpenNode design flat net) over.0 over.1) adds) (All-nil Clean)
  walk_clean sound from to nodes wires walk (goes {a = a} {b = b} {nodes = others} spells) =
      let over = goes_over from to (a ∷ b ∷ others) walk in
      spelled_clean sound a (b ∷ others) wires spells (subst (λ n. AreSteps n (b ∷ others)) over.0 over.2)
