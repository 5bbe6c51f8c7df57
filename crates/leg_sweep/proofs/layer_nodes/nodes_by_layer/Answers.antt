use Rattle.std.proofs.Common.{map, arith}
use Rattle.leg_sweep.proofs.LayerNodes.{nodes_none, next_below, nodes_more, nodes_all}
use Rattle.leg_sweep.proofs.layer_nodes.nodes_by_layer.Goals as goal

pub loop-of_layer-init : goal.loop-of_layer-init
loop-of_layer-init g c =
    let layered = g.R.LayeredRule in
    let fixed = g.R.PairRule.fixed c.args.rule.now in
    let first =
    nodes_none c.args.rects.now (map (layered.layer_of fixed) c.args.items.now) (layered.layers_of fixed) c.in_ok-keys.keys.items
    (rw (← c.requires.all) at c.in_ok-keys.ensures) in
    rw (c.into_iter-of_layer-iterator.ensures.into_iter_gives.0, c.in_ok-layers.ensures.items) first

pub nodes_of-requires : goal.nodes_of-requires
nodes_of-requires g c =
    let layered = g.R.LayeredRule in
    let fixed = g.R.PairRule.fixed c.args.rule.now in
    let so_far = rw c.in-Some.ensures.steps.0 at c.loop-of_layer.invariant in
    rw (c.of_layer.view_is) (next_below c.args.rects.now (map (layered.layer_of fixed) c.args.items.now)
    (layered.layers_of fixed) c.loop-of_layer.layers.items c.in-Some.of_layer c.next.new.self.rest.items so_far)

pub loop-of_layer-preserved : goal.loop-of_layer-preserved
loop-of_layer-preserved g c =
    let layered = g.R.LayeredRule in
    let fixed = g.R.PairRule.fixed c.args.rule.now in
    let so_far = rw c.in-Some.ensures.steps.0 at c.loop-of_layer.invariant in
    let are = rw c.of_layer.view_is at c.in_ok-nodes.ensures in
    rw c.in_ok-push.ensures.items
    (nodes_more c.args.rects.now (map (layered.layer_of fixed) c.args.items.now)
    (layered.layers_of fixed) c.loop-of_layer.layers.items c.in-Some.of_layer c.next.new.self.rest.items c.in_ok-nodes.nodes.items so_far are)

pub returns : goal.returns
returns g c =
    let layered = g.R.LayeredRule in
    let fixed = g.R.PairRule.fixed c.args.rule.now in
    let rest = c.loop-of_layer.of_layer-iterator.rest in
    let none = c.in-None.ensures.steps.0 in
    nodes_all c.args.rects.now (map (layered.layer_of fixed) c.args.items.now) (layered.layers_of fixed) c.loop-of_layer.layers.items rest.items
    (omega (arith, none, rest.ok.0)) c.loop-of_layer.invariant
