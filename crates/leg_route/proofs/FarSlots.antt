-- How many steps open walks to the slots of a net have at least: by boxes, when boxes come, when the flat grows, and as a search is told.
use Rattle.std.proofs.Common.{◌≡◌, ◌↔◌, ◌+◌, ◌<◌, ◌≤◌, ℕ, Bool, Option, None, Some, List, [], ◌++◌, length, map, min, get_or, All, Contains, inl, inr, sym, ◌∙◌, arith}
use Rattle.std.proofs.Math.Nat.{min-le_left, min-le_right}
use Rattle.std.proofs.lemmas.Bool.{cases_lt}
use Rattle.std.proofs.lemmas.List.{get_or-map, length-map}
use Rattle.std.proofs.lemmas.List.Elements.{All-get_or, All-from_get_or}
use Rattle.leg_lib_records.specs.Sound.{IsSound}
use Rattle.leg_design_records.specs.declared.records.Wire.{Wire}
use Rattle.leg_rules.specs.declared.shape.Shape.{Shape}
use Rattle.leg_rules.specs.Metal.Flat.{FlatModel}
use Rattle.leg_rules.specs.Route.OpenMetal.{IsOpenWire, IsOpenStep}
use Rattle.leg_rules.specs.Route.Meets.{MeetsJoined}
use Rattle.leg_route_search.specs.Steps.SideSteps.{IsStep}
use Rattle.leg_route_search.specs.Steps.Search.{IsRound}
use Rattle.leg_route_search.specs.Steps.Dive.{IsOrigin, AreFar}
use Rattle.leg_route_search.proofs.LastSteps.{back_holds}
use Rattle.leg_route_access.specs.declared.slot_access.SlotAccess.{SlotAccess}
use Rattle.leg_route_grid.specs.declared.slot_box.SlotBox.{SlotBox}
use Rattle.leg_route_grid.specs.Steps.WalkBounds.{slot_of, bound_at}
use Rattle.leg_route_access.specs.Steps.NearNeighbours.{IsNeighbourNear}
use Rattle.leg_route_grid.specs.Steps.Grid.{GridModel, IsDesignGrid, IsNumberOf, slot_total}
use Rattle.leg_route_grid.specs.Steps.NodeNumbers.{IsOneOf, IsStepOf}
use Rattle.leg_route_access.specs.Steps.AccessTable.{IsAccessTable}
use Rattle.leg_route_access.specs.Steps.AccessToNet.{IsNodeAdmitted, IsStepAdmitted}
use Rattle.leg_route_access.proofs.AccessSteps.{node_admitted, step_admitted}
use Rattle.leg_route_grid.proofs.Bounds.{nearest_both}
use Rattle.leg_route_access.proofs.TurnedNeighbours.{beside_near}
use Rattle.leg_route_access.proofs.OpenSteps.{steps_have_sides}
use Rattle.leg_route_access.proofs.TableNumbers.{walk_as, shortest_as, none_as}
use Rattle.leg_route.specs.declared.end_slots.EndSlot.{EndSlot}
use Rattle.leg_route.specs.Steps.EndSlots.{IsBoundFrom, IsOpenSlot, IsFarSlot, AreSameEnds}
use Rattle.leg_route.specs.Steps.NetSlots.{IsNearestAt}

-- the step from the one slot to the other is open to the net
abbrev StepAt : GridModel → FlatModel → ℕ → ℕ → ℕ → Type 0
StepAt grid flat net m n = IsStepOf (IsNumberOf grid) (IsOpenStep grid.design flat net) m n

-- where no walk has fewer steps than these, none has fewer than fewer of them
pub far_fewer : (grid : GridModel) (flat : FlatModel) (net : ℕ) (boxes : List SlotBox) (steps fewer n : ℕ) → fewer ≤ steps
    → IsFarSlot grid flat net boxes steps n → IsFarSlot grid flat net boxes fewer n
far_fewer grid flat net boxes steps fewer n upto far from nodes start walk = let is = far from nodes start walk in omega (arith, upto, is)

module _ (grid : GridModel) (flat : FlatModel) (net : ℕ) (is_grid : IsDesignGrid grid) where
  -- a step comes one further at most from some boxes
  one_further : (boxes : List SlotBox) (m n : ℕ) → StepAt grid flat net m n → bound_at grid boxes n ≤ bound_at grid boxes m + 1
  one_further boxes m n step =
      let side = (steps_have_sides grid flat net m n is_grid).0 step in
      (beside_near grid boxes [] side.0 m n is_grid side.1.0).further

  -- no walk has fewer steps than are left by its boxes
  pub far_by_boxes : (boxes : List SlotBox) (steps n : ℕ) → IsBoundFrom grid boxes steps n → IsFarSlot grid flat net boxes steps n
  far_by_boxes boxes steps n few from nodes start walk =
      let left = back_holds (λ k. bound_at grid boxes k) (one_further boxes) walk in
      omega (arith, few, left, start.1)

  -- in none of the first boxes, but in one of all
  in_rest : (old come : List SlotBox) (n : ℕ) → 0 < bound_at grid old n → bound_at grid (old ++ come) n ≡ 0 → bound_at grid come n ≡ 0
  in_rest old come n some none = elim (cases_lt 0 (bound_at grid come n)) [
    | inl more ↦ let both = nearest_both old come (slot_of grid n) 1 (omega (arith, some)) (omega (arith, more)) in absurd (omega (arith, both, none))
    | inr is ↦ omega (arith, is)
  ]

  -- boxes have come to those of the joined part
  pub far_joined : (old come : List SlotBox) (steps n : ℕ) → IsFarSlot grid flat net old steps n
      → IsFarSlot grid flat net (old ++ come) (min steps (bound_at grid come n)) n
  far_joined old come steps n far from nodes start walk = elim (cases_lt 0 (bound_at grid old from)) [
    | inl some ↦
        far_by_boxes come (min steps (bound_at grid come n)) n (min-le_right steps (bound_at grid come n)) from nodes
        (start.0, in_rest old come from some start.1) walk
    | inr none ↦ let less = min-le_left steps (bound_at grid come n) in let is = far from nodes (start.0, omega (arith, none)) walk in omega (arith, less, is)
  ]

-- what is open in a flat that has grown was open before
module _ (grid : GridModel) (net : ℕ) (before after : FlatModel) (kept : (shape : Shape) → Contains before.shapes shape → Contains after.shapes shape) where
  wire_before : (wire : Wire) → IsOpenWire grid.design after net wire → IsOpenWire grid.design before net wire
  wire_before wire is_open metal rect there points =
      let clean = is_open metal rect there points in
      record { far = λ s has. clean.far s (kept s has) }

  pub node_before : (n : ℕ) → IsOpenSlot grid after net n → IsOpenSlot grid before net n
  node_before n one =
      let is = one.holds in
      record { node = one.node; is = one.is; holds = record { is_node = is.is_node; wire = is.wire; adds = is.adds; clean = wire_before is.wire is.clean } }

  step_before : (m n : ℕ) → StepAt grid after net m n → StepAt grid before net m n
  step_before m n step =
      let is = step.step in
      record {
        a = step.a;
        b = step.b;
        a_is = step.a_is;
        b_is = step.b_is;
        step = record { wire = is.wire; adds = is.adds; clean = wire_before is.wire is.clean };
      }

  pub far_grows : (boxes : List SlotBox) (steps n : ℕ) → IsFarSlot grid before net boxes steps n → IsFarSlot grid after net boxes steps n
  far_grows boxes steps n far from nodes start walk =
      far from nodes start (walk_as (IsOpenSlot grid after net) (IsOpenSlot grid before net) (StepAt grid after net) (StepAt grid before net)
      node_before step_before walk)

-- what a search is told of the ends, and what it finds out of them
module _ (grid : GridModel) (flat : FlatModel) (slots : List SlotAccess) (net : ℕ) (origin around : List SlotBox) (is_grid : IsDesignGrid grid)
    (sound : IsSound grid.design.library)
    (told : IsAccessTable grid flat slots) where
  abbrev StepAdmitted : ℕ → ℕ → Type 0
  StepAdmitted m n = IsStep (IsNeighbourNear grid origin around) (IsStepAdmitted grid slots net) m n

  step_open : (m n : ℕ) → StepAdmitted m n → StepAt grid flat net m n
  step_open m n step =
      (steps_have_sides grid flat net m n is_grid).1
      (step.0, (step.1.0.beside, (step_admitted grid is_grid sound flat slots told net m n step.0 step.1.0.beside).0 step.1.1))

  open_step : (m n : ℕ) → StepAt grid flat net m n → StepAdmitted m n
  open_step m n step =
      let side = (steps_have_sides grid flat net m n is_grid).0 step in (
        side.0,
        (beside_near grid origin around side.0 m n is_grid side.1.0, (step_admitted grid is_grid sound flat slots told net m n side.0 side.1.0).1 side.1.1),
      )

  abbrev Known : List ℕ → List ℕ → Type 0
  Known ends steps = AreFar (IsNodeAdmitted slots net) StepAdmitted (IsOrigin (slot_total grid) (λ n. bound_at grid origin n)) ends steps

  no_end : EndSlot
  no_end = record { piece = 0; slot = 0; least = 0 }

  pub told_far : (ends : List EndSlot) → All (λ (end : EndSlot). IsFarSlot grid flat net origin end.least end.slot) ends
      → Known (map (λ (end : EndSlot). end.slot) ends) (map (λ (end : EndSlot). end.least) ends)
  told_far ends far =
      let slots_long = length-map ends (λ (end : EndSlot). end.slot) in
      let steps_long = length-map ends (λ (end : EndSlot). end.least) in
      record {
        one_each = steps_long ∙ sym slots_long;
        each = λ k within from nodes start walk.
            let low : k < length ends = omega (arith, within, slots_long) in
            let is = All-get_or (λ (end : EndSlot). IsFarSlot grid flat net origin end.least end.slot) ends k no_end low far in
            let slot = get_or-map (λ (end : EndSlot). end.slot) ends k no_end 0 low in
            let least = get_or-map (λ (end : EndSlot). end.least) ends k no_end 0 low in
            let one = walk_as (IsNodeAdmitted slots net) (IsOpenSlot grid flat net) StepAdmitted (StepAt grid flat net)
            (λ n is_open. (node_admitted grid flat slots told net n).0 is_open) step_open (rw slot at walk) in
            rw least (is from nodes start one);
      }

  pub found_far : (ends after : List EndSlot) (steps : List ℕ) → AreSameEnds ends after
      → ((k : ℕ) (d : EndSlot) → k < length steps → (get_or after k d).least ≡ get_or steps k 0)
      → Known (map (λ (end : EndSlot). end.slot) ends) steps → All (λ (end : EndSlot). IsFarSlot grid flat net origin end.least end.slot) after
  found_far ends after steps same noted known =
      let long = length-map ends (λ (end : EndSlot). end.slot) in
      All-from_get_or (λ (end : EndSlot). IsFarSlot grid flat net origin end.least end.slot) after no_end
      (λ k within from nodes start walk.
      let low : k < length ends = omega (arith, within, same.one_each) in
      let slot : (get_or after k no_end).slot ≡ get_or (map (λ (end : EndSlot). end.slot) ends) k 0 =
      same.slot k no_end low ∙ sym (get_or-map (λ (end : EndSlot). end.slot) ends k no_end 0 low) in
      let least = noted k no_end (omega (arith, low, long, known.one_each)) in
      let one = walk_as (IsOpenSlot grid flat net) (IsNodeAdmitted slots net) (StepAt grid flat net) StepAdmitted
      (λ n is_open. (node_admitted grid flat slots told net n).1 is_open) open_step (rw slot at walk) in
      rw least (known.each k (omega (arith, low, long)) from nodes start one))

  -- what it finds is a walk to the nearest of the ends
  module _ (starts : List ℕ) (are : (n : ℕ) → Contains starts n ↔ IsOneOf (IsNumberOf grid) (MeetsJoined flat net) n)
      (origins : (n : ℕ) → Contains starts n ↔ IsOrigin (slot_total grid) (λ n. bound_at grid origin n) n) (ends : List ℕ) where
    abbrev Origin : ℕ → Type 0
    Origin n = IsOrigin (slot_total grid) (λ n. bound_at grid origin n) n

    abbrev Joined : ℕ → Type 0
    Joined n = IsOneOf (IsNumberOf grid) (MeetsJoined flat net) n

    opens : (n : ℕ) → IsNodeAdmitted slots net n ↔ IsOpenSlot grid flat net n
    opens n = node_admitted grid flat slots told net n

    steps_open : (m n : ℕ) → StepAdmitted m n ↔ StepAt grid flat net m n
    steps_open m n = (step_open m n, open_step m n)

    begun : (n : ℕ) → IsNodeAdmitted slots net n → Origin n ↔ Joined n
    begun n is_open = (λ is. (are n).0 ((origins n).1 is), λ is. (origins n).0 ((are n).1 is))

    ended : (n : ℕ) → IsNodeAdmitted slots net n → Contains ends n ↔ Contains ends n
    ended n is_open = (λ is. is, λ is. is)

    pub found_nearest : (left_out : Bool) (answer : Option (List ℕ)) → IsRound (IsNodeAdmitted slots net) StepAdmitted Origin (Contains ends) left_out answer
        → IsNearestAt grid flat net ends left_out answer
    found_nearest left_out None none = λ closed.
        none_as (IsNodeAdmitted slots net) (IsOpenSlot grid flat net) StepAdmitted (StepAt grid flat net) Origin (Contains ends) Joined (Contains ends) opens
        steps_open begun ended (none closed)
    found_nearest left_out (Some numbers) is =
        shortest_as (IsNodeAdmitted slots net) (IsOpenSlot grid flat net) StepAdmitted (StepAt grid flat net) Origin (Contains ends) Joined (Contains ends)
        opens steps_open begun ended numbers is
