-- Numbers of the nodes of a walk over the grid.
use Rattle.std.proofs.Common.{◌≡◌, ◌↔◌, ℕ, zero, suc, ◌+◌, ◌-◌, ◌<◌, ◌≤◌, IsTrue, Bool, inl, inr, List, [], ◌∷◌, All, length, get_or, Some, slice_get, refl, sym, ◌∙◌, arith}
use Rattle.std.specs.List.{AllZip}
use Rattle.std.proofs.lemmas.Bool.{cases_lt}
use Rattle.std.proofs.lemmas.Option.{same_Some, none-some, slice_get_within, slice_get-get_or}
use Rattle.std.proofs.lemmas.Slice.Zip.{AllZip-long}
use Rattle.leg_rules.specs.declared.side.Side.{Side}
use Rattle.leg_rules.specs.declared.node.Node.{Node}
use Rattle.leg_rules.specs.Route.Nodes.{IsNode}
use Rattle.leg_route_grid.specs.Steps.Grid.{GridModel, IsDesignGrid, IsNumberOf, slot_total}
use Rattle.leg_route_grid.specs.Steps.NodeNumbers.{IsOneOf, IsNeighbourAt}
use Rattle.leg_rules.specs.Route.GridWalk.{IsGridWalk}
use Rattle.leg_route_access.specs.Steps.GridWalk.{IsWalkByNumbers}
use Rattle.leg_route_grid.proofs.GridSlots.{one_node}
use Rattle.leg_route_grid.proofs.StepsAt.{ends_are_nodes}
use Rattle.leg_route_grid.proofs.SlotRanges.{below_total}
use Rattle.leg_route_access.proofs.BareSlots.{node_in}

-- what stands in two lists at one place
module _ {A B : Type 0} (R : A → B → Type 0) where
  at_right : (xs : List A) (ys : List B) → AllZip R xs ys → (k : ℕ) (y : B) → slice_get ys k ≡ Some y → (x : A) × (slice_get xs k ≡ Some x) × R x y
  at_right [] [] all k y is = absurd (none-some y is)
  at_right [] (z ∷ ys) all k y is = absurd all
  at_right (x ∷ xs) [] all k y is = absurd all
  at_right (x ∷ xs) (z ∷ ys) all zero y is = (x, refl, rw (same_Some z y is) at all.0)
  at_right (x ∷ xs) (z ∷ ys) all (suc k) y is = at_right xs ys all.1 k y is

  at_left : (xs : List A) (ys : List B) → AllZip R xs ys → (k : ℕ) (x : A) → slice_get xs k ≡ Some x → (y : B) × (slice_get ys k ≡ Some y) × R x y
  at_left [] [] all k x is = absurd (none-some x is)
  at_left [] (y ∷ ys) all k x is = absurd all
  at_left (z ∷ xs) [] all k x is = absurd all
  at_left (z ∷ xs) (y ∷ ys) all zero x is = (y, refl, rw (same_Some z x is) at all.0)
  at_left (z ∷ xs) (y ∷ ys) all (suc k) x is = at_left xs ys all.1 k x is

-- the first of the numbers, up to this place, are those of the nodes of a walk
pub record IsWalkUpto (grid : GridModel) (numbers : List ℕ) (end : ℕ) : Type 0 where
  pub each : (k n : ℕ) → k < end → slice_get numbers k ≡ Some n → IsOneOf (IsNumberOf grid) (IsNode grid.design) n
  pub beside : (k m n : ℕ) → k + 1 < end → slice_get numbers k ≡ Some m → slice_get numbers (k + 1) ≡ Some n → (side : Side) × IsNeighbourAt grid side m n

-- whether a node lies in a slot, where that is known of each node that has the slot's number
pub one_there : (grid : GridModel) (n : ℕ) (held : Bool) → n < slot_total grid
    → ((node : Node) → IsNumberOf grid n node → (IsTrue held ↔ IsNode grid.design node))
    → IsTrue held ↔ IsOneOf (IsNumberOf grid) (IsNode grid.design) n
one_there grid n held below holds =
    let point = node_in grid n below in
    (λ is. record { node = point.0; is = point.1; holds = (holds point.0 point.1).0 is }, λ one. (holds one.node one.is).1 one.holds)

module _ (grid : GridModel) (numbers : List ℕ) where
  pub walk_begun : (first : ℕ) → slice_get numbers 0 ≡ Some first → IsOneOf (IsNumberOf grid) (IsNode grid.design) first → IsWalkUpto grid numbers 1
  walk_begun first there is = record {
    each = λ k n below at_k.
        let start : k ≡ 0 = omega (arith, below) in
        let same : first ≡ n = same_Some first n (sym there ∙ (rw start at at_k)) in
        rw same at is;
    beside = λ k m n below at_k next. absurd (omega (arith, below));
  }

  pub walk_on : (k m n : ℕ) → 0 < k → slice_get numbers (k - 1) ≡ Some m → slice_get numbers k ≡ Some n → (side : Side) × IsNeighbourAt grid side m n
      → IsWalkUpto grid numbers k → IsWalkUpto grid numbers (k + 1)
  walk_on k m n some at_m at_n step before = record {
    each = λ j x below at_j. elim (cases_lt j k) [
      | inl earlier ↦ before.each j x earlier at_j
      | inr late ↦
          let here : j ≡ k = omega (arith, below, late) in
          let same : n ≡ x = same_Some n x (sym at_n ∙ (rw here at at_j)) in
          let beside = step.1 in
          let node : IsOneOf (IsNumberOf grid) (IsNode grid.design) n =
          record { node = beside.b; is = beside.b_is; holds = (ends_are_nodes grid.design step.0 beside.a beside.b beside.step).1 } in
          rw same at node
    ];
    beside = λ j x y below at_j next. elim (cases_lt (j + 1) k) [
      | inl earlier ↦ before.beside j x y earlier at_j next
      | inr late ↦
          let here : j + 1 ≡ k = omega (arith, below, late) in
          let prior : j ≡ k - 1 = omega (arith, here) in
          let first : m ≡ x = same_Some m x (sym at_m ∙ (rw prior at at_j)) in
          let second : n ≡ y = same_Some n y (sym at_n ∙ (rw here at next)) in
          rw (first, second) at step
    ];
  }

  -- its numbers are those of slots
  pub upto_within : (end : ℕ) → length numbers ≤ end → IsWalkUpto grid numbers end → All (λ n. n < slot_total grid) numbers
  upto_within end whole walk k d below =
      let one = walk.each k (get_or numbers k d) (omega (arith, below, whole)) (slice_get-get_or numbers k d below) in
      below_total grid (get_or numbers k d) one.node one.is

  pub upto_within_at : (end k n : ℕ) → IsWalkUpto grid numbers end → k < end → slice_get numbers k ≡ Some n → n < slot_total grid
  upto_within_at end k n walk below at_k = let one = walk.each k n below at_k in below_total grid n one.node one.is

  -- and their nodes those of a walk
  pub upto_walks : IsDesignGrid grid → 0 < length numbers → (end : ℕ) → length numbers ≤ end → IsWalkUpto grid numbers end → (nodes : List Node)
      → AllZip (IsNumberOf grid) numbers nodes → IsGridWalk grid.design nodes
  upto_walks is_grid some end whole walk nodes each =
      let long : length nodes ≡ length numbers = AllZip-long (IsNumberOf grid) numbers nodes each in
      record {
        some = omega (arith, long, some);
        each = λ k a at_a.
            let n = at_right (IsNumberOf grid) numbers nodes each k a at_a in
            let one = walk.each k n.0 (let below = slice_get_within nodes k a at_a in omega (arith, below, long, whole)) n.1 in
            rw (one_node grid is_grid n.0 one.node a one.is n.2) at one.holds;
        beside = λ k a b at_a at_b.
            let m = at_right (IsNumberOf grid) numbers nodes each k a at_a in
            let n = at_right (IsNumberOf grid) numbers nodes each (k + 1) b at_b in
            let step = walk.beside k m.0 n.0 (let below = slice_get_within nodes (k + 1) b at_b in omega (arith, below, long, whole)) m.1 n.1 in
            (step.0, rw (one_node grid is_grid m.0 step.1.a a step.1.a_is m.2, one_node grid is_grid n.0 step.1.b b step.1.b_is n.2) at step.1.step);
      }

  pub walk_by_numbers : IsDesignGrid grid → 0 < length numbers → (end : ℕ) → length numbers ≤ end → IsWalkUpto grid numbers end → IsWalkByNumbers grid numbers
  walk_by_numbers is_grid some end whole walk =
      let nodes = nodes_in numbers (upto_within end whole walk) in
      record { nodes = nodes.0; numbered = nodes.1; walk = upto_walks is_grid some end whole walk nodes.0 nodes.1 }
    where
      nodes_in : (xs : List ℕ) → All (λ n. n < slot_total grid) xs → (nodes : List Node) × AllZip (IsNumberOf grid) xs nodes
      nodes_in [] all = ([], tt)
      nodes_in (x ∷ xs) all =
          let rest = nodes_in xs (λ k d below. all (suc k) d (omega (arith, below))) in
          let first = node_in grid x (all 0 x (omega arith)) in
          (first.0 ∷ rest.0, (first.1, rest.1))

  -- and the other way round
  pub upto_of : IsWalkByNumbers grid numbers → IsWalkUpto grid numbers (length numbers)
  upto_of is = record {
    each = λ k n below at_k.
        let node = at_left (IsNumberOf grid) numbers is.nodes is.numbered k n at_k in
        record { node = node.0; is = node.2; holds = is.walk.each k node.0 node.1 };
    beside = λ k m n below at_k next.
        let a = at_left (IsNumberOf grid) numbers is.nodes is.numbered k m at_k in
        let b = at_left (IsNumberOf grid) numbers is.nodes is.numbered (k + 1) n next in
        let side = is.walk.beside k a.0 b.0 a.1 b.1 in
        (side.0, record { a = a.0; b = b.0; a_is = a.2; b_is = b.2; step = side.1 });
  }

  pub step_of : (k m n : ℕ) → 0 < k → k < length numbers → slice_get numbers (k - 1) ≡ Some m → slice_get numbers k ≡ Some n → IsWalkByNumbers grid numbers
      → (side : Side) × IsNeighbourAt grid side m n
  step_of k m n some below at_m at_n is =
      let here : k - 1 + 1 ≡ k = omega (arith, some) in
      (upto_of is).beside (k - 1) m n (omega (arith, here, below)) at_m (rw here at_n)

  pub some_of : IsWalkByNumbers grid numbers → 0 < length numbers
  some_of is = let long = AllZip-long (IsNumberOf grid) numbers is.nodes is.numbered in let some = is.walk.some in omega (arith, long, some)
