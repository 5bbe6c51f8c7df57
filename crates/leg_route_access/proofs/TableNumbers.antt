-- Lists of nodes by their numbers, and searches by numbers.
use Rattle.std.proofs.Common.{◌≡◌, ℕ, ◌+◌, ◌<◌, ◌↔◌, List, [], ◌∷◌, ◌++◌, All, Contains, length, take, get_or, refl, ◌∙◌, arith}
use Rattle.std.specs.List.{AllZip}
use Rattle.std.proofs.lemmas.List.{take_more}
use Rattle.std.proofs.lemmas.List.Elements.{All-cons}
use Rattle.std.proofs.lemmas.Slice.Zip.{all_zipped_more}
use Rattle.std.proofs.lemmas.Option.{slice_get_within}
use Rattle.leg_lib_records.specs.Sound.{IsSound}
use Rattle.leg_rules.specs.Metal.Flat.{FlatModel}
use Rattle.leg_route_search.specs.Steps.SideSteps.{IsStep}
use Rattle.leg_route_search.proofs.LastSteps.{end_open}
use Rattle.leg_route_search.proofs.ReachedEnds.{walk_open}
use Rattle.leg_rules.specs.Route.Walk.{Walk, here, on, IsShortest, NoWalk}
use Rattle.leg_rules.specs.declared.node.Node.{Node}
use Rattle.leg_route_access.specs.declared.slot_access.SlotAccess.{SlotAccess}
use Rattle.leg_route_grid.specs.declared.slot_box.SlotBox.{SlotBox}
use Rattle.leg_rules.specs.Route.Meets.{MeetsJoined, MeetsRest}
use Rattle.leg_rules.specs.Route.OpenMetal.{IsOpenNode, IsOpenStep}
use Rattle.leg_route_grid.specs.Steps.Grid.{GridModel, IsDesignGrid, IsNumberOf, slot_total}
use Rattle.leg_route_access.specs.Steps.NearNeighbours.{IsNeighbourNear}
use Rattle.leg_route_grid.specs.Steps.NodeNumbers.{IsOneOf, IsStepOf, IsNextWalkAt, HasNoWalkAt}
use Rattle.leg_route_access.specs.Steps.AccessTable.{IsAccessTable}
use Rattle.leg_route_access.specs.Steps.AccessToNet.{IsNodeAdmitted, IsStepAdmitted}
use Rattle.leg_route_access.proofs.TurnedNeighbours.{beside_near}
use Rattle.leg_route_access.proofs.OpenSteps.{steps_have_sides}
use Rattle.leg_route_access.proofs.AccessSteps.{node_admitted, step_admitted}

pub one_node_more : (grid : GridModel) (numbers : List ℕ) (i n : ℕ) (nodes more : List Node) (node : Node) → i < length numbers → get_or numbers i n ≡ n
    → AllZip (IsNumberOf grid) (take i numbers) nodes → more ≡ nodes ++ node ∷ [] → IsNumberOf grid n node
    → AllZip (IsNumberOf grid) (take (i + 1) numbers) more
one_node_more grid numbers i n nodes more node within is told more_is number =
    let longer : take (i + 1) numbers ≡ take i numbers ++ n ∷ [] = take_more numbers i n within ∙ rw is refl in
    rw (longer, more_is) (all_zipped_more (IsNumberOf grid) (take i numbers) nodes n node told number)

module _ {Node : Type 0} (Open Other : Node → Type 0) (Step Further : Node → Node → Type 0) (opens : (a : Node) → Open a → Other a)
    (steps : (a b : Node) → Step a b → Further a b) where
  -- a walk of nodes and steps that are told otherwise
  pub walk_as : {a b : Node} {nodes : List Node} → Walk Open Step a nodes b → Walk Other Further a nodes b
  walk_as (here is_open) = here (opens _ is_open)
  walk_as (on is_open step rest) = on (opens _ is_open) (steps _ _ step) (walk_as rest)

-- a shortest walk by nodes and steps, and by open starts and ends, that are told otherwise
module _ {Node : Type 0} (Open Other : Node → Type 0) (Step Further : Node → Node → Type 0) (Start End First Last : Node → Type 0)
    (opens : (a : Node) → Open a ↔ Other a)
    (steps : (a b : Node) → Step a b ↔ Further a b) (starts : (a : Node) → Open a → Start a ↔ First a) (ends : (a : Node) → Open a → End a ↔ Last a) where
  forth : {a b : Node} {nodes : List Node} → Walk Open Step a nodes b → Walk Other Further a nodes b
  forth walk = walk_as Open Other Step Further (λ a is. (opens a).0 is) (λ a b step. (steps a b).0 step) walk

  back : {a b : Node} {nodes : List Node} → Walk Other Further a nodes b → Walk Open Step a nodes b
  back walk = walk_as Other Open Further Step (λ a is. (opens a).1 is) (λ a b step. (steps a b).1 step) walk

  pub shortest_as : (nodes : List Node) → IsShortest Open Step Start End nodes → IsShortest Other Further First Last nodes
  shortest_as nodes is = record {
    from = is.from;
    to = is.to;
    start = (starts is.from (walk_open is.walk)).0 is.start;
    is_end = (ends is.to (end_open is.walk)).0 is.is_end;
    walk = forth is.walk;
    least = λ a b others start end walk.
        let same = back walk in
        is.least a b others ((starts a (walk_open same)).1 start) ((ends b (end_open same)).1 end) same;
  }

  pub none_as : NoWalk Open Step Start End → NoWalk Other Further First Last
  none_as none a b nodes start end walk =
      let same = back walk in
      none a b nodes ((starts a (walk_open same)).1 start) ((ends b (end_open same)).1 end) same

module _ (grid : GridModel) (origin around : List SlotBox) (flat : FlatModel) (slots : List SlotAccess) (net : ℕ) where
  abbrev pub Admitted : ℕ → Type 0
  Admitted n = IsNodeAdmitted slots net n

  abbrev pub StepAdmitted : ℕ → ℕ → Type 0
  StepAdmitted m n = IsStep (IsNeighbourNear grid origin around) (IsStepAdmitted grid slots net) m n

  abbrev pub OpenAt : ℕ → Type 0
  OpenAt n = IsOneOf (IsNumberOf grid) (IsOpenNode grid.design flat net) n

  abbrev pub StepAt : ℕ → ℕ → Type 0
  StepAt m n = IsStepOf (IsNumberOf grid) (IsOpenStep grid.design flat net) m n

  module _ (is_grid : IsDesignGrid grid) (sound : IsSound grid.design.library) (told : IsAccessTable grid flat slots) where
    same_steps : (m n : ℕ) → StepAdmitted m n ↔ StepAt m n
    same_steps m n = (
      λ step. (steps_have_sides grid flat net m n is_grid).1
          (step.0, (step.1.0.beside, (step_admitted grid is_grid sound flat slots told net m n step.0 step.1.0.beside).0 step.1.1)),
      λ step.
          let side = (steps_have_sides grid flat net m n is_grid).0 step in (
            side.0,
            (
              beside_near grid origin around side.0 m n is_grid side.1.0,
              (step_admitted grid is_grid sound flat slots told net m n side.0 side.1.0).1 side.1.1,
            ),
          ),
    )

    -- what a search answers is so of the numbers of open nodes
    module _ (Start End : ℕ → Type 0) (starts finish : List ℕ) (first : (n : ℕ) → Admitted n → Contains starts n ↔ Start n)
        (last : (n : ℕ) → Admitted n → Contains finish n ↔ End n) where
      pub shortest_at : (numbers : List ℕ) → IsShortest Admitted StepAdmitted (Contains starts) (Contains finish) numbers
          → IsShortest OpenAt StepAt Start End numbers
      shortest_at numbers is =
          shortest_as Admitted OpenAt StepAdmitted StepAt (Contains starts) (Contains finish) Start End
          (node_admitted grid flat slots told net) same_steps first last numbers is

      pub none_at : NoWalk Admitted StepAdmitted (Contains starts) (Contains finish) → NoWalk OpenAt StepAt Start End
      none_at none =
          none_as Admitted OpenAt StepAdmitted StepAt (Contains starts) (Contains finish) Start End
          (node_admitted grid flat slots told net) same_steps first last none

    module _ (starts finish : List ℕ) (first : (n : ℕ) → Contains starts n ↔ IsOneOf (IsNumberOf grid) (MeetsJoined flat net) n)
        (last : (n : ℕ) → Contains finish n ↔ IsOneOf (IsNumberOf grid) (MeetsRest flat net) n) where
      pub next_walk_at : (numbers : List ℕ) → IsShortest Admitted StepAdmitted (Contains starts) (Contains finish) numbers → IsNextWalkAt grid flat net numbers
      next_walk_at numbers is =
          shortest_at (IsOneOf (IsNumberOf grid) (MeetsJoined flat net)) (IsOneOf (IsNumberOf grid) (MeetsRest flat net)) starts finish (λ n is_open. first n)
          (λ n is_open. last n) numbers is

      pub no_walk_at : NoWalk Admitted StepAdmitted (Contains starts) (Contains finish) → HasNoWalkAt grid flat net
      no_walk_at none =
          none_at (IsOneOf (IsNumberOf grid) (MeetsJoined flat net)) (IsOneOf (IsNumberOf grid) (MeetsRest flat net)) starts finish (λ n is_open. first n)
          (λ n is_open. last n) none

module _ (grid : GridModel) (slots : List SlotAccess) (count : length slots ≡ slot_total grid) (net : ℕ) where
  below : (n : ℕ) → IsNodeAdmitted slots net n → n < slot_total grid
  below n is = omega (arith, count, slice_get_within slots n is.slot is.there)

  -- the numbers of an open walk are those of slots
  pub walk_below : {Step : ℕ → ℕ → Type 0} {m n : ℕ} {numbers : List ℕ} → Walk (IsNodeAdmitted slots net) Step m numbers n
      → All (λ n. n < slot_total grid) numbers
  walk_below {m = m} (here is_open) = All-cons (λ n. n < slot_total grid) m [] (below m is_open) (λ k d within. absurd (omega (arith, within)))
  walk_below {m = m} (on {nodes = nodes} is_open step rest) = All-cons (λ n. n < slot_total grid) m nodes (below m is_open) (walk_below rest)
