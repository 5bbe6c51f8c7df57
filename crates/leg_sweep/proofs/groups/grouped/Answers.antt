use Rattle.std.proofs.Common.{ℕ, map}
use Rattle.std.proofs.lemmas.Result.{IfOk-weaker}
use Rattle.leg_sweep.specs.Steps.Nodes.{AreNodesFrom, AreNodesOf}
use Rattle.leg_sweep.proofs.NodeGroups.{nodes_from, keys_below}
use Rattle.leg_sweep.proofs.groups.grouped.Goals as goal

pub nodes_of-requires : goal.nodes_of-requires
nodes_of-requires g c = keys_below c.args.rects.now c.args.first c.in_ok-keys.keys.items c.requires.there c.in_ok-keys.ensures

pub returns : goal.returns
returns g c =
    let rects = c.args.rects.now in
    let keys = c.in_ok-keys.keys.items in
    IfOk-weaker c.nodes_of.result (λ nodes. AreNodesOf rects (map (λ (key : ℕ × ℕ). key.1) keys) nodes.items)
    (λ nodes. AreNodesFrom rects c.args.first nodes.items)
    (λ nodes are. nodes_from rects c.args.first keys nodes.items c.in_ok-keys.ensures are)
    c.nodes_of.ensures
