-- Walks in a graph, and what a shortest one is (lefdef's own rule).
use Rattle.std.specs.Prelude.{◌≤◌, List, [], ◌∷◌, length}

-- the nodes of a walk from one node to another: all are open, and from each there is a step to the next
pub data Walk {Node : Type 0} (Open : Node → Type 0) (Step : Node → Node → Type 0) : Node → List Node → Node → Type 0 where
  here : {a : Node} → Open a → Walk Open Step a (a ∷ []) a
  on : {a b c : Node} {nodes : List Node} → Open a → Step a b → Walk Open Step b nodes c → Walk Open Step a (a ∷ nodes) c

-- the nodes of a walk from a start to an end, of which no such walk has fewer
pub record IsShortest {Node : Type 0} (Open : Node → Type 0) (Step : Node → Node → Type 0) (Start End : Node → Type 0) (nodes : List Node) : Type 0 where
  pub from : Node
  pub to : Node
  pub start : Start from
  pub is_end : End to
  pub walk : Walk Open Step from nodes to
  pub least : (a b : Node) (others : List Node) → Start a → End b → Walk Open Step a others b → length nodes ≤ length others

-- there is no walk from a start to an end
abbrev pub NoWalk : {Node : Type 0} → (Node → Type 0) → (Node → Node → Type 0) → (Node → Type 0) → (Node → Type 0) → Type 0
NoWalk {Node} Open Step Start End = (a b : Node) (nodes : List Node) → Start a → End b → Walk Open Step a nodes b → ⊥
