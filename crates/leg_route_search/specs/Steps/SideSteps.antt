-- Steps in a graph, by the sides to which they go (lefdef's own rule).
use Rattle.std.specs.Prelude.{ℕ}
use Rattle.leg_rules.specs.declared.side.Side.{Side}
use Rattle.leg_route_search.specs.declared.graph.Graph.{Ghosts}

-- The second node lies on this side of the first, and the step there is open.
abbrev pub IsStepTo : (Side → ℕ → ℕ → Type 0) → (Side → ℕ → Type 0) → Side → ℕ → ℕ → Type 0
IsStepTo IsBeside OpenStep side a b = IsBeside side a b × OpenStep side a

-- an open step from the first node to the second, on some side
abbrev pub IsStep : (Side → ℕ → ℕ → Type 0) → (Side → ℕ → Type 0) → ℕ → ℕ → Type 0
IsStep IsBeside OpenStep a b = (side : Side) × IsStepTo IsBeside OpenStep side a b

-- such a step of this graph
abbrev pub IsStepIn : {Self : Type 0} → Ghosts Self → Self → ℕ → ℕ → Type 0
IsStepIn G graph = IsStep (G.IsBeside graph) (G.OpenStep graph)
