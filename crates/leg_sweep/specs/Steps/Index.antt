-- What holds inside an index of rectangles.
use Rattle.std.specs.Prelude.{◌<◌, ◌≤◌, ◌^◌, List, length, take, All, AllPairs}
use Rattle.leg_geom.specs.Plane.{RectModel}
use Rattle.leg_sweep.specs.declared.node.Node.{Node}
use Rattle.leg_sweep.specs.declared.bin_index.Cut.{Cut}
use Rattle.leg_sweep.specs.Steps.Nodes.{AreNodesFrom}

-- The first rectangles have the first nodes.
pub record IsCut (rects : List RectModel) (nodes : List Node) (cut : Cut) : Type 0 where
  pub rects_in : cut.rects ≤ length rects
  pub nodes_in : cut.nodes ≤ length nodes
  pub are : AreNodesFrom (take cut.rects rects) 0 (take cut.nodes nodes)

-- The nodes are those of all rectangles, and the cuts, of which there are some, follow one another.
pub record IsIndex (rects : List RectModel) (nodes : List Node) (cuts : List Cut) : Type 0 where
  pub few : length rects < 2 ^ 32
  pub are : AreNodesFrom rects 0 nodes
  pub some : 0 < length cuts
  pub each : All (IsCut rects nodes) cuts
  pub rising : AllPairs (λ a b. a.nodes ≤ b.nodes) cuts
