use Rattle.std.proofs.Common.{ℕ, List, [], ◌∷◌, ◌++◌, Contains, inl, inr, arith}
use Rattle.std.proofs.lemmas.List.Elements.{Contains-get_or, Contains-push_cases}
use Rattle.std.proofs.lemmas.List.Sorted.{Contains-permutation, IsPermutation-sym}
use Rattle.leg_route_search.proofs.dives.near_ends.Goals as goal
use Rattle.leg_route_search.proofs.dives.near_ends.Goals.{then-known-k+in_ok-push, else-known-k}

-- what was taken, and one end more
end_more : (near ends : List ℕ) (end : ℕ) → ((a : ℕ) → Contains near a → Contains ends a) → Contains ends end → (a : ℕ) → Contains (near ++ end ∷ []) a
    → Contains ends a
end_more near ends end so_far is_end a there = elim (Contains-push_cases near end a there) [ inl before ↦ so_far a before | inr same ↦ rw (← same) is_end ]

pub loop-k-preserved : goal.loop-k-preserved
loop-k-preserved g c =
    elim c.if-known-k.branch [
      | then-known-k+in_ok-push w ↦
          rw (w.near-is, w.in_ok-push.ensures.items)
          (end_more c.loop-k.near.items c.args.ends.now _ c.loop-k.invariant (Contains-get_or c.args.ends.now c.loop-k.k 0 (omega arith)))
      | else-known-k w ↦ rw w.near-is c.loop-k.invariant
    ]

pub returns : goal.returns
returns g c a there = c.loop-k.invariant a (Contains-permutation _ _ a (IsPermutation-sym _ _ c.sort_unstable.ensures.permutation) there)
