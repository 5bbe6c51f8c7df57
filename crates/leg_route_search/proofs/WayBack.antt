-- The way back from an end is a shortest walk.
use Rattle.std.proofs.Common.{◌≡◌, ℕ, ◌+◌, ◌-◌, ◌<◌, List, [], ◌∷◌, ◌++◌, reverse, inl, inr, arith}
use Rattle.std.proofs.lemmas.List.{reverse-append}
use Rattle.leg_route_search.specs.declared.mark.Mark.{Mark}
use Rattle.leg_route_search.specs.declared.mark.Mark.TheVariants.{Reached}
use Rattle.leg_rules.specs.Route.Walk.{Walk, IsShortest}
use Rattle.leg_rules.specs.Route.Walk.Walk.{here, on}
use Rattle.leg_route_search.specs.Steps.Marks.{IsMark, IsAt}
use Rattle.leg_route_search.specs.Steps.Search.{AreLinked, IsNearestSoFar}
use Rattle.leg_route_search.specs.Steps.Back.{IsReached, IsEntry, AreEntered, IsWay}
use Rattle.leg_route_search.proofs.NewMarks.{one_mark}

-- A node is reached at one level.
same_level : (marks : List Mark) (a level k f from : ℕ) → IsMark marks a (Reached level f) → IsMark marks a (Reached k from) → level ≡ k
same_level marks a level k f from one other = let same = one_mark marks a (Reached level f) (Reached k from) one other in cc

-- one node further back
pub back_more : (marks : List Mark) → AreEntered marks → (node first from level k : ℕ) (nodes : List ℕ) → IsAt marks first level → 0 < level
    → IsMark marks first (Reached k from)
    → Walk (IsReached marks) (IsEntry marks) first (reverse nodes) node
    → IsAt marks from (level - 1) × Walk (IsReached marks) (IsEntry marks) from (reverse (nodes ++ from ∷ [])) node
back_more marks entered node first from level k nodes is_at positive is walk =
    let same : level ≡ k = same_level marks first level k is_at.0 from is_at.1 is in
    elim (entered first k from is) [
      | inl none ↦ absurd (omega arith)
      | inr (below, k_is, from_at) ↦
          let lower : level - 1 ≡ below = omega arith in
          (rw lower from_at, rw (reverse-append nodes (from ∷ [])) (on (below, from_at) (below, rw k_is at is) walk))
    ]

-- the same walk, where nodes and steps are said otherwise
walk_as : {Node : Type 0} {P Open : Node → Type 0} {R Step : Node → Node → Type 0} → ((a : Node) → P a → Open a) → ((a b : Node) → R a b → Step a b)
    → {a b : Node} {nodes : List Node} → Walk P R a nodes b → Walk Open Step a nodes b
walk_as node_as step_as (here {a = a} p) = here (node_as a p)
walk_as node_as step_as (on {a = a} {b = b} p r rest) = on (node_as a p) (step_as a b r) (walk_as node_as step_as rest)

-- what is linked is entered
pub entered_from_linked : {Open : ℕ → Type 0} {Step : ℕ → ℕ → Type 0} {Start : ℕ → Type 0} (marks : List Mark) → AreLinked Open Step Start marks
    → AreEntered marks
entered_from_linked marks linked a level from is =
    elim (linked a level from is).1 [ inl start ↦ inl start.0 | inr link ↦ inr (link.below, link.level_is, link.from_at) ]

-- and each entry is a step
step_from_entry : {Open : ℕ → Type 0} {Step : ℕ → ℕ → Type 0} {Start : ℕ → Type 0} (marks : List Mark) → AreLinked Open Step Start marks → (a b : ℕ)
    → IsEntry marks a b → Step a b
step_from_entry marks linked a b (below, is) =
    elim (linked b (below + 1) a is).1 [ inl start ↦ absurd (omega (arith, start.0)) | inr link ↦ link.step ]

module _ {Open : ℕ → Type 0} {Step : ℕ → ℕ → Type 0} {Start End : ℕ → Type 0} where
  -- the way to a nearest end is a shortest walk
  pub shortest_from_way : (marks : List Mark) (end : ℕ) (nodes : List ℕ) → IsNearestSoFar Open Step Start End marks end → IsWay marks end nodes
      → IsShortest Open Step Start End nodes
  shortest_from_way marks end nodes near way =
      let same : near.level ≡ way.level = same_level marks end near.level way.level near.end_at.0 way.node_at.0 near.end_at.1 way.node_at.1 in record {
        from = way.from;
        to = end;
        start = elim (near.linked way.from 0 way.begun.0 way.begun.1).1 [ inl start ↦ start.1 | inr link ↦ absurd (omega (arith, link.level_is)) ];
        is_end = near.is_end;
        walk = walk_as (λ a reached. (near.linked a reached.0 reached.1.0 reached.1.1).0)
            (step_from_entry marks near.linked) way.way;
        least = λ a b others start stop walk. omega (arith, near.least a b others start stop walk, way.count, same);
      }
