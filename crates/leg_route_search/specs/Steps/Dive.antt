-- What a dive knows: a search depth first, from a node back to a start.
use Rattle.std.specs.Prelude.{◌≡◌, ◌⊎◌, ℕ, ◌+◌, ◌<◌, ◌≤◌, List, length, get_or}
use Rattle.leg_route_search.specs.declared.mark.Mark.{Mark}
use Rattle.leg_route_search.specs.declared.mark.Mark.TheVariants.{Shut, Far}
use Rattle.leg_rules.specs.declared.side.Side.{Side}
use Rattle.leg_route_search.specs.Steps.Side.{opposite}
use Rattle.leg_route_search.specs.declared.graph.Graph.{Ghosts}
use Rattle.leg_route_search.specs.Steps.SideSteps.{IsStep, IsStepTo, IsStepIn}
use Rattle.leg_rules.specs.Route.Walk.{Walk}
use Rattle.leg_route_search.specs.Steps.Marks.{IsMark}

-- the node is one to which no steps are left: a start
abbrev pub IsOrigin : ℕ → (ℕ → ℕ) → ℕ → Type 0
IsOrigin size bound a = (a < size) × (bound a ≡ 0)

-- such a start of this graph
abbrev pub IsStartIn : {Self : Type 0} → Ghosts Self → Self → ℕ → Type 0
IsStartIn G graph = IsOrigin (G.size_of graph) (G.back_bound_of graph)

-- each walk from a start to the node has at least this many steps
abbrev pub IsFarNode : (ℕ → Type 0) → (ℕ → ℕ → Type 0) → (ℕ → Type 0) → ℕ → ℕ → Type 0
IsFarNode Open Step Start steps node = (from : ℕ) (nodes : List ℕ) → Start from → Walk Open Step from nodes node → steps + 1 ≤ length nodes

-- for each end a number of steps, of which a walk from a start to it has no fewer
pub record AreFar (Open : ℕ → Type 0) (Step : ℕ → ℕ → Type 0) (Start : ℕ → Type 0) (ends known : List ℕ) : Type 0 where
  pub one_each : length known ≡ length ends
  pub each : (k : ℕ) → k < length ends → IsFarNode Open Step Start (get_or known k 0) (get_or ends k 0)

-- and so has each that comes to the node from this side
abbrev pub IsFarFrom : (Side → ℕ → ℕ → Type 0) → (Side → ℕ → Type 0) → (ℕ → Type 0) → (ℕ → Type 0) → ℕ → ℕ → Side → Type 0
IsFarFrom IsBeside OpenStep Open Start steps node side =
    (last from : ℕ) (nodes : List ℕ) → IsStepTo IsBeside OpenStep (opposite side) last node → Start from
    → Walk Open (IsStep IsBeside OpenStep) from nodes last → steps ≤ length nodes

-- What the marks state is true, whatever the limit of the dive that made them.
pub record AreLowerBounds (Open : ℕ → Type 0) (Step : ℕ → ℕ → Type 0) (Start : ℕ → Type 0) (marks : List Mark) : Type 0 where
  pub shut : (a : ℕ) → IsMark marks a Shut → Open a → ⊥
  pub is_open : (a steps : ℕ) → IsMark marks a (Far steps) → Open a
  pub far : (a steps : ℕ) → IsMark marks a (Far steps) → IsFarNode Open Step Start steps a

-- There is a mark for each node of this graph, and what the marks state is true.
pub record AreTrueMarks {Self : Type 0} (G : Ghosts Self) (graph : Self) (marks : List Mark) : Type 0 where
  pub count : length marks ≡ G.size_of graph
  pub bounds : AreLowerBounds (G.OpenNode graph) (IsStepIn G graph) (IsStartIn G graph) marks

-- of the node is known what was known of it before, or what its mark states
abbrev pub IsKnownNow : List Mark → ℕ → ℕ → ℕ → Type 0
IsKnownNow marks a before after = (after ≡ before) ⊎ (IsMark marks a Shut ⊎ IsMark marks a (Far after))

-- and so of each end
pub record AreKnownNow (marks : List Mark) (ends before after : List ℕ) : Type 0 where
  pub one_each : length after ≡ length ends
  pub each : (k : ℕ) → k < length ends → IsKnownNow marks (get_or ends k 0) (get_or before k 0) (get_or after k 0)

-- the nodes of a walk from a start to the node, of at most this many steps
pub record IsWalkFromStart (Open : ℕ → Type 0) (Step : ℕ → ℕ → Type 0) (Start : ℕ → Type 0) (left node : ℕ) (nodes : List ℕ) : Type 0 where
  pub from : ℕ
  pub start : Start from
  pub walk : Walk Open Step from nodes node
  pub short : length nodes ≤ left + 1
