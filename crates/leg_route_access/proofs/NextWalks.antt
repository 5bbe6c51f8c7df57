-- Walks of numbers as walks of nodes.
use Rattle.std.proofs.Common.{◌≡◌, ℕ, ◌↔◌, List, Contains}
use Rattle.std.specs.List.{AllZip}
use Rattle.leg_lib_records.specs.Sound.{IsSound}
use Rattle.leg_rules.specs.Metal.Flat.{FlatModel}
use Rattle.leg_route_search.specs.Steps.SideSteps.{IsStep}
use Rattle.leg_rules.specs.Route.Walk.{IsShortest, NoWalk}
use Rattle.leg_rules.specs.declared.node.Node.{Node}
use Rattle.leg_route_access.specs.declared.slot_access.SlotAccess.{SlotAccess}
use Rattle.leg_route_grid.specs.declared.slot_box.SlotBox.{SlotBox}
use Rattle.leg_rules.specs.Route.OpenMetal.{IsOpenNode, IsOpenStep}
use Rattle.leg_rules.specs.Route.Meets.{MeetsJoined, MeetsRest}
use Rattle.leg_rules.specs.Route.Run.{IsNextWalk, HasNoWalk}
use Rattle.leg_route_grid.specs.Steps.Grid.{GridModel, IsDesignGrid, IsNumberOf}
use Rattle.leg_route_access.specs.Steps.NearNeighbours.{IsNeighbourNear}
use Rattle.leg_route_grid.specs.Steps.NodeNumbers.{IsOneOf, IsStepOf, IsNodeAmong, IsNextWalkAt, HasNoWalkAt}
use Rattle.leg_route_access.specs.Steps.AccessTable.{IsAccessTable}
use Rattle.leg_route_access.specs.Steps.AccessToNet.{IsNodeAdmitted, IsStepAdmitted}
use Rattle.leg_route_access.proofs.AccessSteps.{node_admitted}
use Rattle.leg_route_grid.proofs.GridSlots.{one_node, one_number, numbered}
use Rattle.leg_route_access.proofs.NumberedWalks.{shortest, no_walk}
use Rattle.leg_route_access.proofs.TableNumbers.{shortest_at, none_at}

-- from any starts to any ends
module _ (grid : GridModel) (flat : FlatModel) (net : ℕ) (is_grid : IsDesignGrid grid) (Start End : Node → Type 0) where
  pub walk_as_nodes : (numbers : List ℕ)
      → IsShortest (IsOneOf (IsNumberOf grid) (IsOpenNode grid.design flat net)) (IsStepOf (IsNumberOf grid) (IsOpenStep grid.design flat net))
      (IsOneOf (IsNumberOf grid) Start) (IsOneOf (IsNumberOf grid) End) numbers
      → (nodes : List Node) × AllZip (IsNumberOf grid) numbers nodes
      × IsShortest (IsOpenNode grid.design flat net) (IsOpenStep grid.design flat net) Start End nodes
  walk_as_nodes numbers walk =
      shortest (IsNumberOf grid) (one_node grid is_grid) (IsOpenNode grid.design flat net) (IsOpenStep grid.design flat net)
      (λ a is_open. numbered grid is_grid a is_open.is_node) Start End numbers walk

  pub none_as_nodes : NoWalk (IsOneOf (IsNumberOf grid) (IsOpenNode grid.design flat net)) (IsStepOf (IsNumberOf grid) (IsOpenStep grid.design flat net))
      (IsOneOf (IsNumberOf grid) Start) (IsOneOf (IsNumberOf grid) End)
      → NoWalk (IsOpenNode grid.design flat net) (IsOpenStep grid.design flat net) Start End
  none_as_nodes none =
      no_walk (IsNumberOf grid) (one_node grid is_grid) (IsOpenNode grid.design flat net) (IsOpenStep grid.design flat net)
      (λ a is_open. numbered grid is_grid a is_open.is_node) Start End none

-- what a search answers, from any starts to any ends, whose numbers these are as far as they are open
module _ (grid : GridModel) (origin around : List SlotBox) (flat : FlatModel) (slots : List SlotAccess) (net : ℕ) (is_grid : IsDesignGrid grid)
    (sound : IsSound grid.design.library) (told : IsAccessTable grid flat slots)
    (Start End : Node → Type 0) (starts finish : List ℕ) (first : (n : ℕ) → IsNodeAdmitted slots net n → Contains starts n ↔ IsOneOf (IsNumberOf grid) Start n)
    (last : (n : ℕ) → IsNodeAdmitted slots net n → Contains finish n ↔ IsOneOf (IsNumberOf grid) End n) where
  pub search_walks : (numbers : List ℕ) → IsShortest (IsNodeAdmitted slots net) (IsStep (IsNeighbourNear grid origin around) (IsStepAdmitted grid slots net))
      (Contains starts) (Contains finish) numbers
      → (nodes : List Node) × AllZip (IsNumberOf grid) numbers nodes
      × IsShortest (IsOpenNode grid.design flat net) (IsOpenStep grid.design flat net) Start End nodes
  search_walks numbers walk =
      walk_as_nodes grid flat net is_grid Start End numbers
      (shortest_at grid origin around flat slots net is_grid sound told (IsOneOf (IsNumberOf grid) Start)
      (IsOneOf (IsNumberOf grid) End) starts finish first last numbers walk)

  pub search_ends : NoWalk (IsNodeAdmitted slots net) (IsStep (IsNeighbourNear grid origin around) (IsStepAdmitted grid slots net)) (Contains starts)
      (Contains finish)
      → NoWalk (IsOpenNode grid.design flat net) (IsOpenStep grid.design flat net) Start End
  search_ends none =
      none_as_nodes grid flat net is_grid Start End
      (none_at grid origin around flat slots net is_grid sound told (IsOneOf (IsNumberOf grid) Start)
      (IsOneOf (IsNumberOf grid) End) starts finish first last none)

-- from the nodes of some numbers to those of others
module _ (grid : GridModel) (origin around : List SlotBox) (flat : FlatModel) (slots : List SlotAccess) (net : ℕ) (is_grid : IsDesignGrid grid)
    (sound : IsSound grid.design.library) (told : IsAccessTable grid flat slots) where
  among : (numbers : List ℕ) (n : ℕ) → IsNodeAdmitted slots net n → Contains numbers n ↔ IsOneOf (IsNumberOf grid) (IsNodeAmong grid numbers) n
  among numbers n admitted = (
    λ has. let is_open = (node_admitted grid flat slots told net n).0 admitted in
        record { node = is_open.node; is = is_open.is; holds = record { n = n; has = has; is = is_open.is } },
    λ one. let same : one.holds.n ≡ n = one_number grid is_grid one.holds.n n one.node one.holds.is one.is in rw same at one.holds.has,
  )

  pub walk_among : (starts finish numbers : List ℕ)
      → IsShortest (IsNodeAdmitted slots net) (IsStep (IsNeighbourNear grid origin around) (IsStepAdmitted grid slots net)) (Contains starts)
      (Contains finish) numbers
      → (nodes : List Node) × AllZip (IsNumberOf grid) numbers nodes
      × IsShortest (IsOpenNode grid.design flat net) (IsOpenStep grid.design flat net) (IsNodeAmong grid starts) (IsNodeAmong grid finish) nodes
  walk_among starts finish numbers walk =
      search_walks grid origin around flat slots net is_grid sound told (IsNodeAmong grid starts) (IsNodeAmong grid finish) starts finish (among starts)
      (among finish) numbers walk

  pub none_among : (starts finish : List ℕ) → NoWalk (IsNodeAdmitted slots net) (IsStep (IsNeighbourNear grid origin around) (IsStepAdmitted grid slots net))
      (Contains starts) (Contains finish)
      → NoWalk (IsOpenNode grid.design flat net) (IsOpenStep grid.design flat net) (IsNodeAmong grid starts) (IsNodeAmong grid finish)
  none_among starts finish none =
      search_ends grid origin around flat slots net is_grid sound told (IsNodeAmong grid starts) (IsNodeAmong grid finish) starts finish (among starts)
      (among finish) none

pub next_walk : (grid : GridModel) (flat : FlatModel) (net : ℕ) (numbers : List ℕ) → IsDesignGrid grid → IsNextWalkAt grid flat net numbers
    → (nodes : List Node) × AllZip (IsNumberOf grid) numbers nodes × IsNextWalk grid.design flat net nodes
next_walk grid flat net numbers is_grid walk = walk_as_nodes grid flat net is_grid (MeetsJoined flat net) (MeetsRest flat net) numbers walk

pub no_next_walk : (grid : GridModel) (flat : FlatModel) (net : ℕ) → IsDesignGrid grid → HasNoWalkAt grid flat net → HasNoWalk grid.design flat net
no_next_walk grid flat net is_grid none = none_as_nodes grid flat net is_grid (MeetsJoined flat net) (MeetsRest flat net) none
