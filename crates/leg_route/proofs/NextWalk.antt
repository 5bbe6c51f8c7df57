-- A walk over slots, and the nodes in them.
use Rattle.std.proofs.Common.{◌≡◌, ◌↔◌, ℕ, ◌<◌, Bool, List, [], ◌∷◌, All, Contains, Option, None, Some, IfSome, option_map, subst, ap, ◌∙◌, refl}
use Rattle.std.specs.List.{AllZip}
use Rattle.std.proofs.lemmas.List.Elements.{All-contains}
use Rattle.leg_sweep.proofs.Lists.{Contains-nil}
use Rattle.leg_design_records.specs.Records.{DesignModel}
use Rattle.leg_rules.specs.Metal.Flat.{FlatModel}
use Rattle.leg_route_search.specs.Steps.SideSteps.{IsStep}
use Rattle.leg_route_search.specs.Steps.Dive.{IsOrigin}
use Rattle.leg_route_search.specs.Steps.Search.{IsRound, IsShortestIfAny}
use Rattle.leg_rules.specs.Route.Walk.{IsShortest, NoWalk}
use Rattle.leg_rules.specs.declared.node.Node.{Node}
use Rattle.leg_route_access.specs.declared.slot_access.SlotAccess.{SlotAccess}
use Rattle.leg_route_grid.specs.declared.slot_box.SlotBox.{SlotBox}
use Rattle.leg_route_grid.specs.Steps.WalkBounds.{bound_at, AreBoxed}
use Rattle.leg_route_access.specs.Steps.NearNeighbours.{IsNeighbourNear}
use Rattle.leg_route_grid.specs.Steps.Grid.{GridModel, IsNumberOf, slot_total}
use Rattle.leg_rules.specs.Route.Meets.{MeetsJoined}
use Rattle.leg_route_access.specs.Steps.AccessToNet.{IsNodeAdmitted, IsStepAdmitted}
use Rattle.leg_route_grid.specs.Steps.NodeNumbers.{IsOneOf, IsNextWalkAt, HasNoWalkAt}
use Rattle.leg_rules.specs.Route.Run.{IsNextWalk}
use Rattle.leg_route.specs.Steps.NetSlots.{IsNextAnswerAt, IsNearestAt}

-- where a walk can't begin, there is none
pub no_starts : (grid : GridModel) (flat : FlatModel) (net : ℕ) (starts ends : List ℕ)
    → ((n : ℕ) → Contains starts n ↔ IsOneOf (IsNumberOf grid) (MeetsJoined flat net) n) → starts ≡ [] → (left_out : Bool)
    → IsNearestAt grid flat net ends left_out None
no_starts grid flat net starts ends are none left_out closed a b nodes start is_end walk = Contains-nil a (subst (λ xs. Contains xs a) none ((are a).1 start))

-- nor where it can't end
pub no_ends : (grid : GridModel) (flat : FlatModel) (net : ℕ) (ends : List ℕ) → ends ≡ [] → (left_out : Bool) → IsNearestAt grid flat net ends left_out None
no_ends grid flat net ends none left_out closed a b nodes start is_end walk = Contains-nil b (subst (λ xs. Contains xs b) none is_end)

-- what a search answers whose walks begin and end in these slots
module _ (grid : GridModel) (flat : FlatModel) (slots : List SlotAccess) (net : ℕ) (origin around : List SlotBox) (starts ends : List ℕ) where
  abbrev pub IsWalk : List ℕ → Type 0
  IsWalk numbers =
      IsShortest (IsNodeAdmitted slots net) (IsStep (IsNeighbourNear grid origin around) (IsStepAdmitted grid slots net)) (Contains starts) (Contains ends)
      numbers

  abbrev pub IsNone : Type 0
  IsNone = NoWalk (IsNodeAdmitted slots net) (IsStep (IsNeighbourNear grid origin around) (IsStepAdmitted grid slots net)) (Contains starts) (Contains ends)

  abbrev pub IsFound : Option (List ℕ) → Type 0
  IsFound answer =
      IsShortestIfAny (IsNodeAdmitted slots net) (IsStep (IsNeighbourNear grid origin around) (IsStepAdmitted grid slots net)) (Contains starts) (Contains ends)
      answer

  -- it answers by numbers
  pub answer_at : ((numbers : List ℕ) → IsWalk numbers → IsNextWalkAt grid flat net numbers) → (IsNone → HasNoWalkAt grid flat net)
      → (answer : Option (List ℕ)) → IsFound answer → IsNextAnswerAt grid flat net answer
  answer_at walks none None is = none is
  answer_at walks none (Some numbers) is = walks numbers is

  -- all of slots
  pub answer_within : ((numbers : List ℕ) → IsWalk numbers → All (λ n. n < slot_total grid) numbers)
      → {V : Type 0} (items : V → List ℕ) (walk : Option V) → IsFound (option_map items walk) → IfSome walk (λ v. All (λ n. n < slot_total grid) (items v))
  answer_within walks items None is = tt
  answer_within walks items (Some v) is = walks (items v) is

-- the slots of some boxes are those to which no steps are left
pub origins_are : (grid : GridModel) (boxes : List SlotBox) (slots : List ℕ) → All (λ n. n < slot_total grid) slots → AreBoxed grid boxes slots
    → (a : ℕ) → Contains slots a ↔ IsOrigin (slot_total grid) (λ n. bound_at grid boxes n) a
origins_are grid boxes slots within boxed a = (
  λ has. (All-contains (λ n. n < slot_total grid) slots a within has, All-contains (λ n. bound_at grid boxes n ≡ 0) slots a boxed.inside has),
  λ none. boxed.only a none.0 none.1,
)

-- what a search nearby answers
module _ (grid : GridModel) (flat : FlatModel) (slots : List SlotAccess) (net : ℕ) (origin around : List SlotBox) (starts ends : List ℕ) (bound : ℕ → ℕ)
    (origins : (a : ℕ) → Contains starts a ↔ IsOrigin (slot_total grid) bound a) where
  abbrev pub IsNearby : Bool → Option (List ℕ) → Type 0
  IsNearby left answer =
      IsRound (IsNodeAdmitted slots net) (IsStep (IsNeighbourNear grid origin around) (IsStepAdmitted grid slots net)) (IsOrigin (slot_total grid) bound)
      (Contains ends) left answer

  walk_from : (numbers : List ℕ)
      → IsShortest (IsNodeAdmitted slots net) (IsStep (IsNeighbourNear grid origin around) (IsStepAdmitted grid slots net)) (IsOrigin (slot_total grid) bound)
      (Contains ends) numbers
      → IsWalk grid flat slots net origin around starts ends numbers
  walk_from numbers is = record {
    from = is.from;
    to = is.to;
    start = (origins is.from).1 is.start;
    is_end = is.is_end;
    walk = is.walk;
    least = λ a b others start stop walk. is.least a b others ((origins a).0 start) stop walk;
  }

  pub near_within : ((numbers : List ℕ) → IsWalk grid flat slots net origin around starts ends numbers → All (λ n. n < slot_total grid) numbers)
      → {V : Type 0} (items : V → List ℕ) (left : Bool) (walk : Option V) → IsNearby left (option_map items walk)
      → IfSome walk (λ v. All (λ n. n < slot_total grid) (items v))
  near_within walks items left None is = tt
  near_within walks items left (Some v) is = walks (items v) (walk_from (items v) is)

-- where a number has one node, numbers have one list of them
same_nodes : (Number : ℕ → Node → Type 0) → ((n : ℕ) (a b : Node) → Number n a → Number n b → a ≡ b)
    → (numbers : List ℕ) (a b : List Node) → AllZip Number numbers a → AllZip Number numbers b → a ≡ b
same_nodes Number apart [] [] [] p q = refl
same_nodes Number apart [] [] (y ∷ ys) p q = absurd q
same_nodes Number apart [] (x ∷ xs) ys p q = absurd p
same_nodes Number apart (n ∷ ns) [] ys p q = absurd p
same_nodes Number apart (n ∷ ns) (x ∷ xs) [] p q = absurd q
same_nodes Number apart (n ∷ ns) (x ∷ xs) (y ∷ ys) p q =
    let first : x ≡ y = apart n x y p.0 q.0 in
    let rest : xs ≡ ys = same_nodes Number apart ns xs ys p.1 q.1 in
    ap (λ z. z ∷ xs) first ∙ ap (λ zs. y ∷ zs) rest

-- the nodes of a shortest open walk of numbers are those of one
pub walk_of : (grid : GridModel) (design : DesignModel) (flat : FlatModel) (net : ℕ) (numbers : List ℕ) (nodes : List Node) → grid.design ≡ design
    → ((n : ℕ) (a b : Node) → IsNumberOf grid n a → IsNumberOf grid n b → a ≡ b)
    → ((others : List Node) × AllZip (IsNumberOf grid) numbers others × IsNextWalk grid.design flat net others)
    → AllZip (IsNumberOf grid) numbers nodes → IsNextWalk design flat net nodes
walk_of grid design flat net numbers nodes of_design apart told each =
    let same : told.0 ≡ nodes = same_nodes (IsNumberOf grid) apart numbers told.0 nodes told.1 each in
    subst (λ d. IsNextWalk d flat net nodes) of_design (subst (λ ns. IsNextWalk grid.design flat net ns) same told.2)
