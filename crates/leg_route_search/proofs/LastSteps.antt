-- Walks by their last step, and what a dive learns from each.
use Rattle.std.proofs.Common.{◌≡◌, ℕ, ◌+◌, ◌-◌, ◌<◌, ◌≤◌, min, List, [], ◌∷◌, ◌++◌, length, get_or, take, slice_set, All, Some, ◌⊎◌, ◌↔◌, inl, inr, refl, sym, ◌∙◌, subst, arith, length-append}
use Rattle.std.proofs.Math.ListN.{length-set}
use Rattle.std.proofs.Math.Nat.{min-le_right}
use Rattle.std.proofs.lemmas.List.Elements.{All-more, All-from_get_or}
use Rattle.std.proofs.lemmas.Option.{same_Some}
use Rattle.leg_route_search.specs.declared.mark.Mark.{Mark}
use Rattle.leg_route_search.specs.declared.mark.Mark.TheVariants.{Shut, Far}
use Rattle.leg_route_search.specs.declared.graph.Graph.{Ghosts}
use Rattle.leg_rules.specs.declared.side.Side.{Side}
use Rattle.leg_rules.specs.declared.side.Side.TheVariants.{West, East, South, North, Below, Above}
use Rattle.leg_route_search.specs.Steps.Side.{opposite}
use Rattle.leg_route_search.specs.Steps.SideSteps.{IsStep, IsStepTo, IsStepIn}
use Rattle.leg_rules.specs.Route.Walk.{Walk, IsShortest}
use Rattle.leg_rules.specs.Route.Walk.Walk.{here, on}
use Rattle.leg_route_search.specs.Steps.Dive.{IsOrigin, IsStartIn, IsFarNode, AreFar, IsFarFrom, AreLowerBounds, AreTrueMarks, IsKnownNow, AreKnownNow, IsWalkFromStart}
use Rattle.leg_route_search.proofs.NewMarks.{mark_cases}

module _ {Node : Type 0} {Open : Node → Type 0} {Step : Node → Node → Type 0} where
  -- the last node of a walk is open
  pub end_open : {a b : Node} {nodes : List Node} → Walk Open Step a nodes b → Open b
  end_open (here is_open) = is_open
  end_open (on is_open step rest) = end_open rest

  -- one node more
  pub walk_push : {a b c : Node} {nodes : List Node} → Walk Open Step a nodes b → Step b c → Open c → Walk Open Step a (nodes ++ c ∷ []) c
  walk_push (here is_open) step open_c = on is_open step (here open_c)
  walk_push (on is_open first rest) step open_c = on is_open first (walk_push rest step open_c)

  -- A walk has no step, or a last one.
  pub last_step : {a b : Node} {nodes : List Node} → Walk Open Step a nodes b
      → ((a ≡ b) × (length nodes ≡ 1)) ⊎ ((last : Node) × (front : List Node) × Walk Open Step a front last × Step last b × (length nodes ≡ length front + 1))
  last_step (here is_open) = inl (refl, refl)
  last_step (on {a = a} {b = b} is_open step rest) =
      elim (last_step rest) [
        | inl one ↦ inr (a, a ∷ [], here is_open, rw (← one.0) step, omega (arith, one.1))
        | inr (last, front, walk, more, count) ↦ inr (last, a ∷ front, on is_open step walk, more, omega (arith, count))
      ]

  -- a walk has more nodes than are left at least to its last one, but for what is left at its first
  pub back_holds : (bound : Node → ℕ) → ((a b : Node) → Step a b → bound b ≤ bound a + 1)
      → {a b : Node} {nodes : List Node} → Walk Open Step a nodes b → bound b + 1 ≤ bound a + length nodes
  back_holds bound further (here is_open) = omega arith
  back_holds bound further (on {a = a} {b = b} is_open step rest) = omega (arith, back_holds bound further rest, further a b step)

shut_far : (steps : ℕ) → Shut ≡ Far steps → ⊥
shut_far steps same = cc same

same_steps : (steps other : ℕ) → Far steps ≡ Far other → steps ≡ other
same_steps steps other same = cc same

-- What is far from each side is as far, but for a start.
far_last : (IsBeside : Side → ℕ → ℕ → Type 0) (OpenStep : Side → ℕ → Type 0) (Open Start : ℕ → Type 0) (steps node : ℕ)
    → All (IsFarFrom IsBeside OpenStep Open Start steps node) (West ∷ East ∷ South ∷ North ∷ Below ∷ Above ∷ [])
    → (side : Side) (last from : ℕ) (nodes : List ℕ) → IsStepTo IsBeside OpenStep side last node → Start from
    → Walk Open (IsStep IsBeside OpenStep) from nodes last → steps ≤ length nodes
far_last IsBeside OpenStep Open Start steps node far West last from nodes step start walk = far 1 West (omega arith) last from nodes step start walk
far_last IsBeside OpenStep Open Start steps node far East last from nodes step start walk = far 0 West (omega arith) last from nodes step start walk
far_last IsBeside OpenStep Open Start steps node far South last from nodes step start walk = far 3 West (omega arith) last from nodes step start walk
far_last IsBeside OpenStep Open Start steps node far North last from nodes step start walk = far 2 West (omega arith) last from nodes step start walk
far_last IsBeside OpenStep Open Start steps node far Below last from nodes step start walk = far 5 West (omega arith) last from nodes step start walk
far_last IsBeside OpenStep Open Start steps node far Above last from nodes step start walk = far 4 West (omega arith) last from nodes step start walk

pub far_from_sides : (IsBeside : Side → ℕ → ℕ → Type 0) (OpenStep : Side → ℕ → Type 0) (Open Start : ℕ → Type 0) (steps node : ℕ)
    → All (IsFarFrom IsBeside OpenStep Open Start steps node) (West ∷ East ∷ South ∷ North ∷ Below ∷ Above ∷ [])
    → (Start node → ⊥) → IsFarNode Open (IsStep IsBeside OpenStep) Start steps node
far_from_sides IsBeside OpenStep Open Start steps node far other from nodes start walk =
    elim (last_step walk) [
      | inl none ↦ absurd (other (rw (← none.0) start))
      | inr (last, front, shorter, step, count) ↦
          omega (arith, count, far_last IsBeside OpenStep Open Start steps node far step.0 last from front step.1 start shorter)
    ]

-- The steps that a walk has at least fall.
pub far_less : (IsBeside : Side → ℕ → ℕ → Type 0) (OpenStep : Side → ℕ → Type 0) (Open Start : ℕ → Type 0) (steps fewer node : ℕ) (side : Side)
    → fewer ≤ steps → IsFarFrom IsBeside OpenStep Open Start steps node side → IsFarFrom IsBeside OpenStep Open Start fewer node side
far_less IsBeside OpenStep Open Start steps fewer node side less far last from nodes step start walk = omega (arith, less, far last from nodes step start walk)

-- A node on this side is far.
pub far_beyond : (IsBeside : Side → ℕ → ℕ → Type 0) (OpenStep : Side → ℕ → Type 0) (Open Start : ℕ → Type 0) (steps least node beyond : ℕ) (side : Side)
    → steps ≤ least + 1 → ((last : ℕ) → IsBeside (opposite side) last node → last ≡ beyond) → IsFarNode Open (IsStep IsBeside OpenStep) Start least beyond
    → IsFarFrom IsBeside OpenStep Open Start steps node side
far_beyond IsBeside OpenStep Open Start steps least node beyond side less only far last from nodes step start walk =
    omega (arith, less, far from nodes start (rw (only last step.0) at walk))

-- one side more
pub far_more : (P : ℕ → Side → Type 0) → ((steps fewer : ℕ) (side : Side) → fewer ≤ steps → P steps side → P fewer side)
    → (sides : List Side) (i steps fewer : ℕ)
    → i < length sides → fewer ≤ steps → All (P steps) (take i sides) → P fewer (get_or sides i West) → All (P fewer) (take (i + 1) sides)
far_more P less sides i steps fewer within low far more = All-more (P fewer) sides i West within (λ k d below. less steps fewer _ low (far k d below)) more

-- one node more on the way back from a start
pub back_push : {Open : ℕ → Type 0} {Step : ℕ → ℕ → Type 0} {Start : ℕ → Type 0} (left from node : ℕ) (nodes : List ℕ) → 0 < left → Step from node → Open node
    → IsWalkFromStart Open Step Start (left - 1) from nodes → IsWalkFromStart Open Step Start left node (nodes ++ node ∷ [])
back_push left from node nodes some step is_open back = record {
  from = back.from;
  start = back.start;
  walk = walk_push back.walk step is_open;
  short = omega (arith, back.short, length-append nodes (node ∷ []));
}

module _ {Self : Type 0} (G : Ghosts Self) (graph : Self) where
  -- a node that is shut
  pub true_shut : (marks : List Mark) (to : ℕ) → to < G.size_of graph → (G.OpenNode graph to → ⊥) → AreTrueMarks G graph marks
      → AreTrueMarks G graph (slice_set marks to Shut)
  true_shut marks to within closed known =
      let k = known.bounds in
      let low : to < length marks = omega (arith, within, known.count) in record {
        count = length-set marks to Shut ∙ known.count;
        bounds = record {
          shut = λ a is. elim (mark_cases marks to Shut low a Shut is) [ inl old ↦ k.shut a old | inr new ↦ rw new.0 closed ];
          is_open = λ a steps is. elim (mark_cases marks to Shut low a (Far steps) is)
              [ inl old ↦ k.is_open a steps old | inr new ↦ absurd (shut_far steps new.1) ];
          far = λ a steps is. elim (mark_cases marks to Shut low a (Far steps) is) [ inl old ↦ k.far a steps old | inr new ↦ absurd (shut_far steps new.1) ];
        };
      }

  -- an open node, and how far it is at least
  pub true_far : (marks : List Mark) (to steps : ℕ) → to < G.size_of graph → G.OpenNode graph to
      → IsFarNode (G.OpenNode graph) (IsStepIn G graph) (IsStartIn G graph) steps to
      → AreTrueMarks G graph marks → AreTrueMarks G graph (slice_set marks to (Far steps))
  true_far marks to steps within is_open far known =
      let k = known.bounds in
      let low : to < length marks = omega (arith, within, known.count) in record {
        count = length-set marks to (Far steps) ∙ known.count;
        bounds = record {
          shut = λ a is. elim (mark_cases marks to (Far steps) low a Shut is) [ inl old ↦ k.shut a old | inr new ↦ absurd (shut_far steps (sym new.1)) ];
          is_open = λ a other is. elim (mark_cases marks to (Far steps) low a (Far other) is)
              [ inl old ↦ k.is_open a other old | inr new ↦ rw new.0 is_open ];
          far = λ a other is. elim (mark_cases marks to (Far steps) low a (Far other) is) [
            | inl old ↦ k.far a other old
            | inr new ↦ rw (new.0, ← (same_steps steps other new.1)) far
          ];
        };
      }

-- what is left at least to a node, as the bound says
pub far_by_bound : {Open : ℕ → Type 0} {Step : ℕ → ℕ → Type 0} (size : ℕ) (bound : ℕ → ℕ) → ((a b : ℕ) → Step a b → bound b ≤ bound a + 1)
    → (steps most node : ℕ) → steps ≡ min most (bound node)
    → IsFarNode Open Step (IsOrigin size bound) steps node
far_by_bound size bound further steps most node is from nodes start walk =
    let upto : min most (bound node) ≤ bound node = min-le_right most (bound node) in
    omega (arith, is, upto, back_holds bound further walk, start.1)

-- what is left at least from an end is left at least from one that is as far or farther
pub far_fewer : {Open : ℕ → Type 0} {Step : ℕ → ℕ → Type 0} {Start : ℕ → Type 0} (steps fewer node : ℕ) → fewer ≤ steps → IsFarNode Open Step Start steps node
    → IsFarNode Open Step Start fewer node
far_fewer steps fewer node less far from nodes start walk = omega (arith, less, far from nodes start walk)

-- so each end is, of which no fewer are left by the bound
pub far_each : {Open : ℕ → Type 0} {Step : ℕ → ℕ → Type 0} (size : ℕ) (bound : ℕ → ℕ) → ((a b : ℕ) → Step a b → bound b ≤ bound a + 1) → (ends known : List ℕ)
    → length known ≡ length ends → ((k : ℕ) → k < length ends → get_or known k 0 ≤ bound (get_or ends k 0)) → AreFar Open Step (IsOrigin size bound) ends known
far_each size bound further ends known one_each low = record {
  one_each = one_each;
  each = λ k within from nodes start walk. let few = low k within in omega (arith, few, back_holds bound further walk, start.1);
}

-- What is known now of an end is true, where what was known before is, and what the marks state.
far_now : {Open : ℕ → Type 0} {Step : ℕ → ℕ → Type 0} {Start : ℕ → Type 0} (marks : List Mark) (a before after : ℕ) → AreLowerBounds Open Step Start marks
    → IsFarNode Open Step Start before a
    → IsKnownNow marks a before after → IsFarNode Open Step Start after a
far_now marks a before after bounds far (inl same) = rw same far
far_now marks a before after bounds far (inr (inl shut)) = λ from nodes start walk. absurd (bounds.shut a shut (end_open walk))
far_now marks a before after bounds far (inr (inr mark)) = bounds.far a after mark

pub all_far_now : {Open : ℕ → Type 0} {Step : ℕ → ℕ → Type 0} {Start : ℕ → Type 0} (marks : List Mark) (ends before after : List ℕ)
    → AreLowerBounds Open Step Start marks → AreFar Open Step Start ends before
    → AreKnownNow marks ends before after → AreFar Open Step Start ends after
all_far_now marks ends before after bounds far now = record {
  one_each = now.one_each;
  each = λ k within. far_now marks (get_or ends k 0) (get_or before k 0) (get_or after k 0) bounds (far.each k within) (now.each k within);
}

-- and so are the fewest steps that are known of an end
pub least_far : {Open : ℕ → Type 0} {Step : ℕ → ℕ → Type 0} {Start : ℕ → Type 0} (ends known : List ℕ) (least : ℕ)
    → ((k : ℕ) → k < length ends → least ≤ get_or known k 0)
    → AreFar Open Step Start ends known → All (IsFarNode Open Step Start least) ends
least_far {Open} {Step} {Start} ends known least low far =
    All-from_get_or (IsFarNode Open Step Start least) ends 0
    (λ k within. far_fewer (get_or known k 0) least (get_or ends k 0) (low k within) (far.each k within))

-- the side across from that across from this one
opposite_twice : (side : Side) → opposite (opposite side) ≡ side
opposite_twice West = refl
opposite_twice East = refl
opposite_twice South = refl
opposite_twice North = refl
opposite_twice Below = refl
opposite_twice Above = refl

module _ (IsBeside : Side → ℕ → ℕ → Type 0) (both_ways : (side : Side) (a b : ℕ) → IsBeside side a b → IsBeside (opposite side) b a) (side : Side)
    (node : ℕ) where
  seen_back : (last : ℕ) → IsBeside (opposite side) last node → IsBeside side node last
  seen_back last beside = subst (λ (s : Side). IsBeside s node last) (opposite_twice side) (both_ways (opposite side) last node beside)

  -- the one node from which this one lies on the other side
  pub only_beyond : (from : ℕ) → ((to : ℕ) → (Some from ≡ Some to) ↔ IsBeside side node to) → (last : ℕ) → IsBeside (opposite side) last node → last ≡ from
  only_beyond from is last beside = sym (same_Some from last ((is last).1 (seen_back last beside)))

-- A walk of no more steps than each has at least is a shortest one.
pub shortest_from_back : {Open : ℕ → Type 0} {Step : ℕ → ℕ → Type 0} {Start End : ℕ → Type 0} (left end : ℕ) (nodes : List ℕ)
    → End end → ((b : ℕ) → End b → IsFarNode Open Step Start left b) → IsWalkFromStart Open Step Start left end nodes → IsShortest Open Step Start End nodes
shortest_from_back left end nodes is_end far back = record {
  from = back.from;
  to = end;
  start = back.start;
  is_end = is_end;
  walk = back.walk;
  least = λ a b others start stop walk. omega (arith, back.short, far b stop a others start walk);
}
