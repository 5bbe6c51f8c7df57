-- The step up from a slot.
use Rattle.std.proofs.Common.{◌≡◌, ℕ, ◌↔◌, inl, true, false, Option, Some, None, slice_get, refl, sym, ap, subst, ◌∙◌}
use Rattle.std.specs.Option.{is_some}
use Rattle.std.proofs.lemmas.Option.{same_Some, none-some}
use Rattle.leg_lib_records.specs.Records.{ViaModel}
use Rattle.leg_design_records.specs.declared.records.Wire.TheVariants.{ViaAt}
use Rattle.leg_design_records.specs.Records.{DesignModel}
use Rattle.leg_rules.specs.Metal.Flat.{FlatModel}
use Rattle.leg_rules.specs.declared.side.Side.TheVariants.{Above}
use Rattle.leg_rules.specs.declared.node.Node.{Node}
use Rattle.leg_route_grid.specs.declared.slot.Slot.{Slot}
use Rattle.leg_rules.specs.Route.OpenMetal.{IsOpenWire}
use Rattle.leg_route_grid.specs.Steps.Grid.{GridModel, IsDesignGrid, IsSlot, IsNumberOf}
use Rattle.leg_route_grid.specs.Steps.NodeNumbers.{IsNeighbourAt, IsOpenStepAt}
use Rattle.leg_route_grid.proofs.GridSlots.{the_node}
use Rattle.leg_route_access.proofs.OpenSteps.{via_there, said_there, via_answer, no_step}

-- what is told of a side is some number of which this holds
pub some_there : (P : ℕ → Type 0) (next : Option ℕ) → is_some next ≡ true → ((to : ℕ) → (next ≡ Some to) ↔ P to) → (to : ℕ) × P to
some_there P (Some to) there is = (to, (is to).0 refl)
some_there P None there is = absurd cc

-- or there is none
pub no_step_up : (grid : GridModel) (n : ℕ) (next : Option ℕ) (flat : FlatModel) (net : ℕ) → IsDesignGrid grid → is_some next ≡ false
    → ((to : ℕ) → (next ≡ Some to) ↔ IsNeighbourAt grid Above n to) → ¬ IsOpenStepAt grid flat net Above n
no_step_up grid n (Some m) flat net is_grid none is = absurd cc
no_step_up grid n None flat net is_grid none is = no_step grid is_grid Above n flat net (λ m beside. none-some m ((is m).1 beside))

module _ (grid : GridModel) (is_grid : IsDesignGrid grid) (n to : ℕ) (s : Slot) (at_n : IsSlot grid n s.layer s.row s.column)
    (step : IsNeighbourAt grid Above n to) where
  via_up : slice_get grid.vias s.layer ≡ Some (Some step.step.0)
  via_up = via_there grid n to step.step.0 s step.a step.b is_grid at_n step.a_is step.b_is step.step.1

  -- a step up goes by a via
  pub via_leads_up : slice_get grid.vias s.layer ≡ Some None → ⊥
  via_leads_up none =
      let is : None ≡ Some step.step.0 = same_Some None (Some step.step.0) (sym none ∙ via_up) in
      none-some step.step.0 is

  -- what tells whether the via is open tells it of the step
  pub up_answer : (node : Node) (via : ℕ) → IsNumberOf grid n node → slice_get grid.vias s.layer ≡ Some (Some via) → (design : DesignModel)
      → grid.design ≡ design → (flat : FlatModel) (net : ℕ) (Answer : Type 0)
      → ((said : ViaModel) → slice_get design.library.vias via ≡ Some said → Answer ↔ IsOpenWire design flat net (ViaAt via node.at))
      → Answer ↔ IsOpenStepAt grid flat net Above n
  up_answer node via node_is there design of_design flat net Answer says =
      let up = step.step.0 in
      let same : via ≡ up = same_Some via up (same_Some (Some via) (Some up) (sym there ∙ via_up)) in
      let said = said_there grid.design.library step.a.layer step.b.layer up step.step.1.via_is in
      let read : slice_get design.library.vias via ≡ Some said.said =
      ap (slice_get design.library.vias) same ∙ ap (λ (d : DesignModel). slice_get d.library.vias up) (sym of_design) ∙ said.there in
      let P : ℕ → Type 0 = λ k. Answer ↔ IsOpenWire design flat net (ViaAt k node.at) in
      let Q : Node → Type 0 = λ node. Answer ↔ IsOpenWire design flat net (ViaAt up node.at) in
      let answer = subst Q (the_node grid n node step.a node_is step.a_is) (subst P same (says said.said read)) in
      via_answer grid is_grid Above n to step.a step.b step.a_is step.b_is step design of_design flat net Answer up (inl step.step.1) answer
