-- How the nodes of an index are put together.
use Rattle.std.proofs.Common.{◌≡◌, ℕ, ◌+◌, ◌-◌, ◌≤◌, ◌<◌, List, [], ◌∷◌, ◌++◌, length, drop, map, All, refl, ◌∙◌, arith, length-append, append_assoc}
use Rattle.std.specs.List.{range_with_len}
use Rattle.std.specs.Prelude.{IsPermutation}
use Rattle.std.proofs.lemmas.Int.{ints}
use Rattle.std.proofs.lemmas.List.{drop_at, set_at, length-map, get_or-map}
use Rattle.std.proofs.lemmas.List.Concat.{flat_map-append}
use Rattle.std.proofs.lemmas.List.Elements.{All-nil, All-cons, All-append, All-take, All-weaker}
use Rattle.std.proofs.lemmas.List.Sorted.{IsPermutation-map, Contains-permutation}
use Rattle.leg_lemmas.proofs.Contents.{All-from_contains}
use Rattle.leg_lemmas.proofs.Ranges.{in_range, range_within}
use Rattle.leg_geom.specs.Plane.{RectModel}
use Rattle.leg_sweep.specs.declared.bounds.Bounds.{Bounds}
use Rattle.leg_sweep.specs.declared.node.Content.TheVariants.{Rect}
use Rattle.leg_sweep.specs.declared.node.Node.{Node}
use Rattle.leg_sweep.specs.Steps.Bounds.{IsWithin}
use Rattle.leg_sweep.specs.NearNumbers.{number_in}
use Rattle.leg_sweep.specs.Steps.Nodes.{members_of, HasBoundsOf, IsRight, AreNodesFrom, AreNodesOf, IsGrouped, AreGrouped}
use Rattle.leg_sweep.proofs.NearNodes.{forest_append}

-- bounds lie within themselves
within_itself : (b : Bounds) → IsWithin b b
within_itself b = record { left = omega (arith, ints); bottom = omega (arith, ints); right = omega (arith, ints); top = omega (arith, ints) }

within_through : (a b c : Bounds) → IsWithin a b → IsWithin b c → IsWithin a c
within_through a b c first second = record {
  left = omega (arith, ints, first.left, second.left);
  bottom = omega (arith, ints, first.bottom, second.bottom);
  right = omega (arith, ints, first.right, second.right);
  top = omega (arith, ints, first.top, second.top);
}

module _ (rects : List RectModel) where
  -- one rectangle
  pub grouped_one : (bounds : Bounds) (number : ℕ) (before : List Node) → HasBoundsOf rects number bounds
      → AreGrouped rects (number ∷ []) bounds before (before ++ (record { bounds = bounds; content = Rect number }) ∷ [])
  grouped_one bounds number before has =
      let node : Node = record { bounds = bounds; content = Rect number } in
      record {
        nodes = node ∷ [];
        are = refl;
        forest = (omega arith, All-nil (λ (member : Node). IsWithin member.bounds bounds), tt);
        right = All-cons (IsRight rects) node [] has (All-nil (IsRight rects));
        within = All-cons (λ (n : Node). IsWithin n.bounds bounds) node [] (within_itself bounds) (All-nil (λ (n : Node). IsWithin n.bounds bounds));
        named = refl;
      }

  -- some rectangles, and behind them others
  pub grouped_both : (first second both : Bounds) (xs ys : List ℕ) (before between after : List Node) → AreGrouped rects xs first before between
      → AreGrouped rects ys second between after
      → IsWithin first both → IsWithin second both → AreGrouped rects (xs ++ ys) both before after
  grouped_both first second both xs ys before between after a b in_first in_second = record {
    nodes = a.nodes ++ b.nodes;
    are = rw (b.are, a.are) (append_assoc before a.nodes b.nodes);
    forest = forest_append a.nodes b.nodes a.forest b.forest;
    right = All-append (IsRight rects) a.nodes b.nodes a.right b.right;
    within = All-append (λ (node : Node). IsWithin node.bounds both) a.nodes b.nodes
        (All-weaker (λ (node : Node). IsWithin node.bounds first) (λ (node : Node). IsWithin node.bounds both)
        (λ node is. within_through node.bounds first both is in_first) a.nodes a.within)
        (All-weaker (λ (node : Node). IsWithin node.bounds second) (λ (node : Node). IsWithin node.bounds both)
        (λ node is. within_through node.bounds second both is in_second) b.nodes b.within);
    named = rw (flat_map-append (λ (node : Node). number_in node.content) a.nodes b.nodes, a.named, b.named) refl;
  }

  -- the nodes of a group stand behind its own
  pub members_within : (numbers : List ℕ) (bounds : Bounds) (before : List Node) (open_node : Node) (between : List Node)
      → AreGrouped rects numbers bounds (before ++ open_node ∷ []) between
      → All (λ (node : Node). IsWithin node.bounds bounds) (drop (length before + 1) between)
  members_within numbers bounds before open_node between a =
      rw (a.are, drop_at (before ++ open_node ∷ []) a.nodes (length before + 1) (length-append before (open_node ∷ []))) a.within

  pub grouped_closed : (numbers : List ℕ) (bounds : Bounds) (before : List Node) (open_node : Node) (between after : List Node)
      → AreGrouped rects numbers bounds (before ++ open_node ∷ []) between
      → IsGrouped bounds (length before) between after → AreGrouped rects numbers bounds before after
  grouped_closed numbers bounds before open_node between after a g =
      let apart : between ≡ before ++ open_node ∷ a.nodes = a.are ∙ append_assoc before (open_node ∷ []) a.nodes in
      let count : length between ≡ length before + (length a.nodes + 1) = rw apart (omega (arith, length-append before (open_node ∷ a.nodes))) in
      let Inside : Node → Type 0 = λ (node : Node). IsWithin node.bounds bounds in
      let few : members_of g.node.content ≤ length a.nodes = omega (arith, g.members, count) in
      record {
        nodes = g.node ∷ a.nodes;
        are = rw (g.is, apart) (set_at before open_node a.nodes g.node (length before) refl);
        forest = (few, rw g.around (All-take Inside (members_of g.node.content) a.nodes a.within), a.forest);
        right = All-cons (IsRight rects) g.node a.nodes (g.right rects) a.right;
        within = All-cons Inside g.node a.nodes (rw g.around (within_itself bounds)) a.within;
        named = rw g.group a.named;
      }

-- the numbers from one on, below another
range_below : (first end : ℕ) → first ≤ end → All (λ (number : ℕ). number < end) (range_with_len first (end - first))
range_below first end low =
    All-from_contains (λ (number : ℕ). number < end) (range_with_len first (end - first))
    (λ number has. omega (arith, low, (range_within first (end - first) number has).1))

-- rectangles, in whatever order, have nodes
pub nodes_are : (rects : List RectModel) (keys sorted : List (ℕ × ℕ)) (bounds : Bounds) (nodes : List Node) → IsPermutation keys sorted
    → AreGrouped rects (map (λ (key : ℕ × ℕ). key.1) sorted) bounds [] nodes → AreNodesOf rects (map (λ (key : ℕ × ℕ). key.1) keys) nodes
nodes_are rects keys sorted bounds nodes moved a =
    let same : nodes ≡ a.nodes = a.are in
    record {
      forest = rw same a.forest;
      right = rw same a.right;
      once = rw (same, a.named) (IsPermutation-map (λ (key : ℕ × ℕ). key.1) keys sorted moved);
    }

-- all numbers from one on have nodes
pub nodes_from : (rects : List RectModel) (first : ℕ) (keys : List (ℕ × ℕ)) (nodes : List Node)
    → map (λ (key : ℕ × ℕ). key.1) keys ≡ range_with_len first (length rects - first)
    → AreNodesOf rects (map (λ (key : ℕ × ℕ). key.1) keys) nodes → AreNodesFrom rects first nodes
nodes_from rects first keys nodes all are = record {
  forest = are.forest;
  right = are.right;
  all = λ number low high. Contains-permutation _ _ number are.once (rw all (in_range first (length rects - first) number low (omega (arith, low, high))));
}

-- the keys of numbers from one on speak of rectangles
pub keys_below : (rects : List RectModel) (first : ℕ) (keys : List (ℕ × ℕ)) → first ≤ length rects
    → map (λ (key : ℕ × ℕ). key.1) keys ≡ range_with_len first (length rects - first)
    → All (λ (key : ℕ × ℕ). key.1 < length rects) keys
keys_below rects first keys within are k d below =
    let numbers : All (λ (number : ℕ). number < length rects) (map (λ (key : ℕ × ℕ). key.1) keys) = rw are (range_below first (length rects) within) in
    let count = length-map keys (λ (key : ℕ × ℕ). key.1) in
    rw (← get_or-map (λ (key : ℕ × ℕ). key.1) keys k d d.1 below) (numbers k d.1 (omega (arith, count, below)))
