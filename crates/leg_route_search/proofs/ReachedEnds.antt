-- Walks and the steps that are left at least.
use Rattle.std.proofs.Common.{◌≡◌, ℕ, ◌+◌, ◌<◌, ◌≤◌, List, length, arith}
use Rattle.leg_route_search.specs.declared.mark.Mark.{Mark}
use Rattle.leg_rules.specs.Route.Walk.{Walk}
use Rattle.leg_rules.specs.Route.Walk.Walk.{here, on}
use Rattle.leg_route_search.specs.Steps.Marks.{IsAt}

module _ {Node : Type 0} {Open : Node → Type 0} {Step : Node → Node → Type 0} where
  -- the first node of a walk is open
  pub walk_open : {a b : Node} {nodes : List Node} → Walk Open Step a nodes b → Open a
  walk_open (here is_open) = is_open
  walk_open (on is_open step rest) = is_open

  -- a walk to an end has more nodes than are left at least
  pub bound_holds : (bound : Node → ℕ) → ((a b : Node) → Step a b → bound a ≤ bound b + 1)
      → {a b : Node} {nodes : List Node} → bound b ≡ 0 → Walk Open Step a nodes b → bound a + 1 ≤ length nodes
  bound_holds bound nearer at_end (here is_open) = omega arith
  bound_holds bound nearer at_end (on {a = a} {b = b} is_open step rest) = omega (arith, bound_holds bound nearer at_end rest, nearer a b step)

-- Each open node that a step leads to from a marked one is marked, where the steps to it and the fewest that are left from it come to
-- less than d. So a walk that goes on from a marked node and gets to an end in less than d steps in all ends at a marked node.
pub end_reached : {Open : ℕ → Type 0} {Step : ℕ → ℕ → Type 0} (bound : ℕ → ℕ) (d : ℕ) (marks : List Mark) → ((a b : ℕ) → Step a b → bound a ≤ bound b + 1)
    → ((a b level : ℕ) → IsAt marks a level → Step a b → Open b → level + 1 + bound b < d → (j : ℕ) × IsAt marks b j × (j ≤ level + 1))
    → {a b : ℕ} {nodes : List ℕ} (level : ℕ) → bound b ≡ 0 → IsAt marks a level → level + length nodes ≤ d → Walk Open Step a nodes b
    → (j : ℕ) × IsAt marks b j × (j + 1 ≤ level + length nodes)
end_reached bound d marks nearer followed level at_end is_at short (here is_open) = (level, is_at, omega arith)
end_reached bound d marks nearer followed level at_end is_at short (on {a = a} {b = b} {nodes = nodes} is_open step rest) =
    let left : bound b + 1 ≤ length nodes = bound_holds bound nearer at_end rest in
    let next = followed a b level is_at step (walk_open rest) (omega (arith, left)) in
    let found = end_reached bound d marks nearer followed next.0 at_end next.1 (omega (arith, next.2)) rest in
    (found.0, found.1, omega (arith, found.2, next.2))

-- Each open node that a step leads to from a marked one is marked. So a walk from a marked node ends at a marked one.
pub all_reached : {Open : ℕ → Type 0} {Step : ℕ → ℕ → Type 0} (marks : List Mark)
    → ((a b level : ℕ) → IsAt marks a level → Step a b → Open b → (j : ℕ) × IsAt marks b j)
    → {a b : ℕ} {nodes : List ℕ} (level : ℕ) → IsAt marks a level → Walk Open Step a nodes b → (j : ℕ) × IsAt marks b j
all_reached marks followed level is_at (here is_open) = (level, is_at)
all_reached marks followed level is_at (on {a = a} {b = b} is_open step rest) =
    let next = followed a b level is_at step (walk_open rest) in all_reached marks followed next.0 next.1 rest
