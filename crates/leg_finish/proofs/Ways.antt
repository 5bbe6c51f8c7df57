-- Open walks from some nodes to others, and from the slots of the ones to the slots of the others.
use Rattle.std.proofs.Common.{◌≡◌, ◌↔◌, ℕ, List, [], Contains, Option, None, Some, Bool, true, false, not, IsTrue, is_some, option_map, subst, refl}
use Rattle.std.specs.List.{AllZip}
use Rattle.std.proofs.lemmas.Bool.{true≢false, false≢true}
use Rattle.leg_lemmas.proofs.Contents.{Contains-nil}
use Rattle.leg_rules.specs.Metal.Flat.{FlatModel}
use Rattle.leg_route_search.specs.Steps.SideSteps.{IsStep}
use Rattle.leg_route_search.specs.Steps.Search.{IsShortestIfAny}
use Rattle.leg_route_search.proofs.LastSteps.{end_open}
use Rattle.leg_route_search.proofs.ReachedEnds.{walk_open}
use Rattle.leg_rules.specs.Route.Walk.{IsShortest, NoWalk}
use Rattle.leg_rules.specs.declared.node.Node.{Node}
use Rattle.leg_route_access.specs.declared.slot_access.SlotAccess.{SlotAccess}
use Rattle.leg_route_grid.specs.declared.slot_box.SlotBox.{SlotBox}
use Rattle.leg_rules.specs.Route.Nodes.{IsNode}
use Rattle.leg_rules.specs.Route.OpenMetal.{IsOpenNode, IsOpenStep}
use Rattle.leg_route_access.specs.Steps.NearNeighbours.{IsNeighbourNear}
use Rattle.leg_route_grid.specs.Steps.Grid.{GridModel, IsNumberOf}
use Rattle.leg_route_access.specs.Steps.AccessToNet.{IsNodeAdmitted, IsStepAdmitted}
use Rattle.leg_route_grid.specs.Steps.NodeNumbers.{IsOneOf, IsNodeAmong}
use Rattle.leg_finish.specs.Steps.Reach.{HasNoWay}

module _ (grid : GridModel) (apart : (n : ℕ) (a b : Node) → IsNumberOf grid n a → IsNumberOf grid n b → a ≡ b)
    (numbered : (a : Node) → IsNode grid.design a → (n : ℕ) × IsNumberOf grid n a) where
  -- the nodes in these slots are those of which this holds
  module _ (numbers : List ℕ) (P : Node → Type 0) (are : (n : ℕ) → Contains numbers n ↔ IsOneOf (IsNumberOf grid) P n) where
    among : (node : Node) → IsNode grid.design node → P node → IsNodeAmong grid numbers node
    among node is_node holds =
        let n = numbered node is_node in record { n = n.0; has = (are n.0).1 (record { node = node; is = n.1; holds = holds }); is = n.1 }

    holds_of : (node : Node) → IsNodeAmong grid numbers node → P node
    holds_of node is = let one = (are is.n).0 is.has in subst P (apart is.n one.node node one.is is.is) one.holds

  pub same_way : (flat : FlatModel) (net : ℕ) (starts ends : List ℕ) (Start End : Node → Type 0)
      → ((n : ℕ) → Contains starts n ↔ IsOneOf (IsNumberOf grid) Start n)
      → ((n : ℕ) → Contains ends n ↔ IsOneOf (IsNumberOf grid) End n)
      → HasNoWay grid flat net starts ends ↔ NoWalk (IsOpenNode grid.design flat net) (IsOpenStep grid.design flat net) Start End
  same_way flat net starts ends Start End first last = (
    λ none a b nodes start is_end walk. none a b nodes (among starts Start first a (walk_open walk).is_node start)
        (among ends End last b (end_open walk).is_node is_end) walk,
    λ none a b nodes start is_end walk. none a b nodes (holds_of starts Start first a start) (holds_of ends End last b is_end) walk,
  )

module _ (grid : GridModel) (flat : FlatModel) (net : ℕ) (starts ends : List ℕ) where
  -- there is no way where no walk can begin, or none can end
  pub no_starts : starts ≡ [] → HasNoWay grid flat net starts ends
  no_starts none a b nodes start is_end walk = Contains-nil start.n (subst (λ xs. Contains xs start.n) none start.has)

  pub no_ends : ends ≡ [] → HasNoWay grid flat net starts ends
  no_ends none a b nodes start is_end walk = Contains-nil is_end.n (subst (λ xs. Contains xs is_end.n) none is_end.has)

  -- what a search answers
  module _ (slots : List SlotAccess) (origin around : List SlotBox) where
    abbrev pub IsFound : Option (List ℕ) → Type 0
    IsFound answer =
        IsShortestIfAny (IsNodeAdmitted slots net) (IsStep (IsNeighbourNear grid origin around) (IsStepAdmitted grid slots net)) (Contains starts)
        (Contains ends) answer

    abbrev pub IsWay : List Node → Type 0
    IsWay nodes = IsShortest (IsOpenNode grid.design flat net) (IsOpenStep grid.design flat net) (IsNodeAmong grid starts) (IsNodeAmong grid ends) nodes

    pub way_told : ((numbers : List ℕ) → IsFound (Some numbers) → (nodes : List Node) × AllZip (IsNumberOf grid) numbers nodes × IsWay nodes)
        → (IsFound None → HasNoWay grid flat net starts ends)
        → {V : Type 0} (items : V → List ℕ) (walk : Option V) (none : Bool) → IsFound (option_map items walk) → is_some walk ≡ not none
        → IsTrue none ↔ HasNoWay grid flat net starts ends
    way_told walks no_way items None true found same = (λ is. no_way found, λ no. refl)
    way_told walks no_way items None false found same = absurd (false≢true same)
    way_told walks no_way items (Some v) true found same = absurd (true≢false same)
    way_told walks no_way items (Some v) false found same = (
      λ is. absurd (false≢true is),
      λ no. let way = walks (items v) found in absurd (no way.2.from way.2.to way.0 way.2.start way.2.is_end way.2.walk),
    )
