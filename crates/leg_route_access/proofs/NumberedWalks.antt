-- Walks over numbers, and over the nodes that have them.
use Rattle.std.proofs.Common.{◌≡◌, ℕ, ◌≤◌, List, [], ◌∷◌, length, refl, sym, arith}
use Rattle.std.specs.List.{AllZip}
use Rattle.std.proofs.lemmas.Slice.Zip.{AllZip-long}
use Rattle.leg_route_search.proofs.ReachedEnds.{walk_open}
use Rattle.leg_route_grid.specs.Steps.NodeNumbers.{IsOneOf, IsStepOf}
use Rattle.leg_rules.specs.Route.Walk.{Walk, here, on, IsShortest, NoWalk}

module _ {Node : Type 0} (Number : ℕ → Node → Type 0) (unique : (n : ℕ) (a b : Node) → Number n a → Number n b → a ≡ b) (Open : Node → Type 0)
    (Step : Node → Node → Type 0) where
  abbrev OpenAt : ℕ → Type 0
  OpenAt n = IsOneOf Number Open n

  abbrev StepAt : ℕ → ℕ → Type 0
  StepAt m n = IsStepOf Number Step m n

  record NodesWalk (m n : ℕ) (numbers : List ℕ) : Type 0 where
    pub from : Node
    pub to : Node
    pub nodes : List Node
    pub from_is : Number m from
    pub to_is : Number n to
    pub each : AllZip Number numbers nodes
    pub walk : Walk Open Step from nodes to

  onward : (m k n : ℕ) (numbers : List ℕ) → OpenAt m → StepAt m k → NodesWalk k n numbers → NodesWalk m n (m ∷ numbers)
  onward m k n numbers is_open step rest =
      let at_a : step.a ≡ is_open.node = unique m step.a is_open.node step.a_is is_open.is in
      let at_b : step.b ≡ rest.from = unique k step.b rest.from step.b_is rest.from_is in
      let step : Step is_open.node rest.from = rw (← at_a, ← at_b) step.step in
      record {
        from = is_open.node;
        to = rest.to;
        nodes = is_open.node ∷ rest.nodes;
        from_is = is_open.is;
        to_is = rest.to_is;
        each = (is_open.is, rest.each);
        walk = on is_open.holds step rest.walk;
      }

  to_nodes : {m n : ℕ} {numbers : List ℕ} → Walk OpenAt StepAt m numbers n → NodesWalk m n numbers
  to_nodes {m} (here is_open) = record {
    from = is_open.node;
    to = is_open.node;
    nodes = is_open.node ∷ [];
    from_is = is_open.is;
    to_is = is_open.is;
    each = (is_open.is, tt);
    walk = here is_open.holds;
  }
  to_nodes (on is_open step rest) = onward _ _ _ _ is_open step (to_nodes rest)

  record NumbersWalk (m : ℕ) (to : Node) (nodes : List Node) : Type 0 where
    pub n : ℕ
    pub numbers : List ℕ
    pub n_is : Number n to
    pub long : length numbers ≡ length nodes
    pub walk : Walk OpenAt StepAt m numbers n

  module _ (numbered : (a : Node) → Open a → (n : ℕ) × Number n a) where
    to_numbers : {a b : Node} {nodes : List Node} → Walk Open Step a nodes b → (m : ℕ) → Number m a → NumbersWalk m b nodes
    to_numbers {a} (here is_open) m m_is = record {
      n = m;
      numbers = m ∷ [];
      n_is = m_is;
      long = refl;
      walk = here (record { node = a; is = m_is; holds = is_open });
    }
    to_numbers {a} (on {b = b} is_open step rest) m m_is =
        let next = numbered b (walk_open rest) in
        let further = to_numbers rest next.0 next.1 in
        record {
          n = further.n;
          numbers = m ∷ further.numbers;
          n_is = further.n_is;
          long = omega (arith, further.long);
          walk = on (record { node = a; is = m_is; holds = is_open }) (record { a = a; b = b; a_is = m_is; b_is = next.1; step = step }) further.walk;
        }

    module _ (Start End : Node → Type 0) where
      -- no walk of nodes is shorter than a shortest walk of numbers
      none_shorter : (numbers : List ℕ) → ((m n : ℕ) (others : List ℕ) → IsOneOf Number Start m → IsOneOf Number End n → Walk OpenAt StepAt m others n
          → length numbers ≤ length others)
          → (a b : Node) (others : List Node) → Start a → End b → Walk Open Step a others b → length numbers ≤ length others
      none_shorter numbers least a b others start end walk =
          let first = numbered a (walk_open walk) in
          let same = to_numbers walk first.0 first.1 in
          let less =
          least first.0 same.n same.numbers (record { node = a; is = first.1; holds = start }) (record { node = b; is = same.n_is; holds = end }) same.walk in
          omega (arith, less, same.long)

      pub no_walk : NoWalk OpenAt StepAt (IsOneOf Number Start) (IsOneOf Number End) → NoWalk Open Step Start End
      no_walk none a b nodes start end walk =
          let first = numbered a (walk_open walk) in
          let same = to_numbers walk first.0 first.1 in
          none first.0 same.n same.numbers (record { node = a; is = first.1; holds = start }) (record { node = b; is = same.n_is; holds = end }) same.walk

      pub shortest : (numbers : List ℕ) → IsShortest OpenAt StepAt (IsOneOf Number Start) (IsOneOf Number End) numbers
          → (nodes : List Node) × AllZip Number numbers nodes × IsShortest Open Step Start End nodes
      shortest numbers is =
          let walk = to_nodes is.walk in
          let from : is.start.node ≡ walk.from = unique _ is.start.node walk.from is.start.is walk.from_is in
          let to : is.is_end.node ≡ walk.to = unique _ is.is_end.node walk.to is.is_end.is walk.to_is in
          let long : length numbers ≡ length walk.nodes = sym (AllZip-long Number numbers walk.nodes walk.each) in (
            walk.nodes,
            walk.each,
            record {
              from = walk.from;
              to = walk.to;
              start = rw (← from) is.start.holds;
              is_end = rw (← to) is.is_end.holds;
              walk = walk.walk;
              least = λ a b others start end other. omega (arith, long, none_shorter numbers is.least a b others start end other);
            },
          )
