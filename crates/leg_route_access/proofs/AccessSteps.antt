-- What a table of slots admits is what is open, where it tells so.
use Rattle.std.proofs.Common.{◌≡◌, ◌↔◌, ℕ, ◌<◌, List, Some, inl, inr, slice_get, arith}
use Rattle.std.proofs.lemmas.Option.{slice_get_cases}
use Rattle.leg_lib_records.specs.Sound.{IsSound}
use Rattle.leg_rules.specs.Metal.Flat.{FlatModel}
use Rattle.leg_rules.specs.declared.side.Side.{Side}
use Rattle.leg_rules.specs.declared.side.Side.TheVariants.{West, East, South, North, Below, Above}
use Rattle.leg_wire_spacing.specs.declared.access.Access.{Access}
use Rattle.leg_route_access.specs.declared.slot_access.SlotAccess.{SlotAccess}
use Rattle.leg_rules.specs.Route.OpenMetal.{IsOpenNode}
use Rattle.leg_route_grid.specs.Steps.Grid.{GridModel, IsDesignGrid, IsNumberOf, slot_total}
use Rattle.leg_route_grid.specs.Steps.NodeNumbers.{IsOneOf, IsNeighbourAt, IsOpenStepAt}
use Rattle.leg_route_access.specs.Steps.AccessTable.{AdmitsJust, IsAccessTable, IsOpenAlong}
use Rattle.leg_route_access.specs.Steps.AccessToNet.{IsAdmittedAt, IsAdmittedThere, IsNodeAdmitted, IsStepAdmitted}
use Rattle.leg_route_grid.proofs.SlotRanges.{below_total}
use Rattle.leg_route_access.proofs.OpenSteps.{one_number_beside}
use Rattle.leg_route_access.proofs.StepsAlong.{along_east, along_north}
use Rattle.leg_route_access.proofs.TurnedSteps.{along_west, along_south, open_across}

module _ (grid : GridModel) (flat : FlatModel) (slots : List SlotAccess) (told : IsAccessTable grid flat slots) (net : ℕ) where
  -- a part of each slot, which tells this of it
  admitted_is : (part : SlotAccess → Access) (Holds : ℕ → ℕ → Type 0)
      → ((n : ℕ) (slot : SlotAccess) → slice_get slots n ≡ Some slot → AdmitsJust (part slot) (λ net. Holds net n))
      → (n : ℕ) → n < slot_total grid → IsAdmittedAt slots part net n ↔ Holds net n
  admitted_is part Holds tells n within = (
    λ is. (tells n is.slot is.there net).0 is.admits,
    λ holds. elim (slice_get_cases slots n).1 [
      | inl some ↦ record { slot = some.0; there = some.2; admits = (tells n some.0 some.2 net).1 holds }
      | inr none ↦ absurd (omega (arith, none.0, within, told.count))
    ],
  )

  pub node_admitted : (n : ℕ) → IsNodeAdmitted slots net n ↔ IsOneOf (IsNumberOf grid) (IsOpenNode grid.design flat net) n
  node_admitted n = (
    λ is. ((told.each n is.slot is.there).node net).0 is.admits,
    λ is_open.
        (admitted_is (λ slot. slot.node) (λ net n. IsOneOf (IsNumberOf grid) (IsOpenNode grid.design flat net) n)
        (λ n slot there. (told.each n slot there).node) n
        (below_total grid n is_open.node is_open.is)).1 is_open,
  )

  along_admitted : (n : ℕ) → n < slot_total grid → IsAdmittedAt slots (λ slot. slot.along) net n ↔ IsOpenAlong grid flat net n
  along_admitted n within = admitted_is (λ slot. slot.along) (λ net n. IsOpenAlong grid flat net n) (λ n slot there. (told.each n slot there).along) n within

  above_admitted : (n : ℕ) → n < slot_total grid → IsAdmittedAt slots (λ slot. slot.above) net n ↔ IsOpenStepAt grid flat net Above n
  above_admitted n within =
      admitted_is (λ slot. slot.above) (λ net n. IsOpenStepAt grid flat net Above n) (λ n slot there. (told.each n slot there).above) n within

-- one thing is another, which is a third
both_ways : (A B C : Type 0) → A ↔ B → B ↔ C → A ↔ C
both_ways A B C p q = (λ a. q.0 (p.0 a), λ c. p.1 (q.1 c))

module _ (grid : GridModel) (is_grid : IsDesignGrid grid) (slots : List SlotAccess) (part : SlotAccess → Access) (net : ℕ) (side : Side) (n to : ℕ)
    (beside : IsNeighbourAt grid side n to) where
  -- what is kept of the one slot on a side
  pub there_is : IsAdmittedThere grid slots part net side n ↔ IsAdmittedAt slots part net to
  there_is = (
    λ is.
        let same : is.to ≡ to = one_number_beside grid is_grid side n is.to to is.beside beside in
        rw same at is.admitted,
    λ is. record { to = to; beside = beside; admitted = is },
  )

module _ (grid : GridModel) (is_grid : IsDesignGrid grid) (sound : IsSound grid.design.library) (flat : FlatModel) (slots : List SlotAccess)
    (told : IsAccessTable grid flat slots) (net n to : ℕ) where
  here_within : (side : Side) → IsNeighbourAt grid side n to → n < slot_total grid
  here_within side beside = below_total grid n beside.a beside.a_is

  there_within : (side : Side) → IsNeighbourAt grid side n to → to < slot_total grid
  there_within side beside = below_total grid to beside.b beside.b_is

  -- a step is admitted where it is open
  pub step_admitted : (side : Side) → IsNeighbourAt grid side n to → IsStepAdmitted grid slots net side n ↔ IsOpenStepAt grid flat net side n
  step_admitted West beside =
      both_ways _ _ _ (there_is grid is_grid slots (λ slot. slot.along) net West n to beside)
      (both_ways _ _ _ (along_admitted grid flat slots told net to (there_within West beside)) (along_west grid is_grid sound flat net n to beside))
  step_admitted East beside =
      both_ways _ _ _ (along_admitted grid flat slots told net n (here_within East beside)) (along_east grid is_grid n to beside flat net)
  step_admitted South beside =
      both_ways _ _ _ (there_is grid is_grid slots (λ slot. slot.along) net South n to beside)
      (both_ways _ _ _ (along_admitted grid flat slots told net to (there_within South beside)) (along_south grid is_grid sound flat net n to beside))
  step_admitted North beside =
      both_ways _ _ _ (along_admitted grid flat slots told net n (here_within North beside)) (along_north grid is_grid n to beside flat net)
  step_admitted Below beside =
      both_ways _ _ _ (there_is grid is_grid slots (λ slot. slot.above) net Below n to beside)
      (both_ways _ _ _ (above_admitted grid flat slots told net to (there_within Below beside)) (open_across grid is_grid flat net n to Below sound beside))
  step_admitted Above beside = above_admitted grid flat slots told net n (here_within Above beside)
