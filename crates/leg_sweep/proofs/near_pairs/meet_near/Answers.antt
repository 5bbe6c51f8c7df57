use Rattle.std.proofs.Common.{◌≡◌, ℕ, ◌-◌, ◌<◌, List, [], length, get_or, take, map, Some, slice_get, refl, ◌∙◌, arith}
use Rattle.std.proofs.lemmas.List.{length-take-le, get_or_read}
use Rattle.std.proofs.lemmas.List.Sums.{count_by-le-length}
use Rattle.std.proofs.lemmas.Option.{slice_get_read}
use Rattle.leg_sweep.specs.declared.node.Node.{Node}
use Rattle.leg_sweep.specs.Counts.{near_along_both, near_on_layer}
use Rattle.leg_sweep.specs.Steps.Sweep.{test_at}
use Rattle.leg_sweep.proofs.FewPairs.{pairs_more}
use Rattle.leg_sweep.proofs.NearItems.{found_read, found_can_meet, found_few, found_all_pairs}
use Rattle.leg_sweep.proofs.near_pairs.meet_near.Goals as goal

-- the nodes of the layer that was read
read_nodes : (nodes : List (List Node)) (layer : ℕ) (of_layer inside : List Node) → layer < length nodes → of_layer ≡ get_or nodes layer of_layer
    → inside ≡ of_layer → inside ≡ get_or nodes layer []
read_nodes nodes layer of_layer inside within read is = is ∙ get_or_read nodes layer of_layer within read []

pub near_before-requires-clause-forest : goal.near_before-requires-clause-forest
near_before-requires-clause-forest g c =
    let layers = c.requires.layers in
    let layer : ℕ = c.layer-layer.result in
    let within : layer < length c.args.layers.now = omega (arith, layers.many, c.layer-layer.ensures.below) in
    let is = read_nodes c.args.layers.now layer c.index-layers-layer.result c.of_layer.inside.nodes.items within c.index-layers-layer.is c.of_layer.view_is in
    rw (c.deref.ensures.value, is) (layers.each layer c.layer-layer.ensures.below).forest

pub near_before-requires-clause-right : goal.near_before-requires-clause-right
near_before-requires-clause-right g c =
    let layers = c.requires.layers in
    let layer : ℕ = c.layer-layer.result in
    let within : layer < length c.args.layers.now = omega (arith, layers.many, c.layer-layer.ensures.below) in
    let is = read_nodes c.args.layers.now layer c.index-layers-layer.result c.of_layer.inside.nodes.items within c.index-layers-layer.is c.of_layer.view_is in
    rw (c.deref.ensures.value, is) (layers.each layer c.layer-layer.ensures.below).right

pub meet_waiting-requires-clause-can : goal.meet_waiting-requires-clause-can
meet_waiting-requires-clause-can g c =
    let rule = g.R.PairRule in
    let layered = g.R.LayeredRule in
    let fixed = rule.fixed c.args.rule.now in
    let items = c.args.items.now in
    let rects = c.args.rects.now in
    let nodes = c.args.layers.now in
    let n : ℕ = c.args.new in
    let b = c.index-items-new.result in
    let layer_of = layered.layer_of fixed in
    let reach_of = layered.layer_reach_of fixed in
    let b_at : slice_get items n ≡ Some b = slice_get_read items (length items) n b refl c.requires.there c.index-items-new.is in
    let layer_is : c.layer-layer.result ≡ layer_of b = c.layer-layer.ensures.is in
    let b_in : layer_of b < layered.layers_of fixed = rw (← layer_is) c.layer-layer.ensures.below in
    let reach_is : c.layer_reach-reach.result ≡ reach_of (layer_of b) = rw (← layer_is) c.layer_reach-reach.ensures in
    let read =
    found_read rects nodes c.layer-layer.result (layer_of b) c.layer_reach-reach.result
    (reach_of (layer_of b)) n c.index-layers-layer.result c.deref.result.now c.near_before.new.near.items layer_is reach_is
    (omega (arith, c.requires.layers.many, c.layer-layer.ensures.below)) c.index-layers-layer.is
    (c.deref.ensures.value ∙ c.of_layer.view_is) c.in_ok-near_before.ensures in
    rw (read, reach_is)
    (found_can_meet (rule.Holds fixed) (rule.rect_of fixed) layer_of reach_of (g.met.R.LayeredRule.layered fixed)
    (g.met.R.LayeredRule.near_on_layer fixed) items rects c.requires.cut (layered.layers_of fixed) nodes c.requires.layers n b b_at b_in)

pub meet_waiting-requires-clause-looks : goal.meet_waiting-requires-clause-looks
meet_waiting-requires-clause-looks g c =
    let rule = g.R.PairRule in
    let layered = g.R.LayeredRule in
    let fixed = rule.fixed c.args.rule.now in
    let items = c.args.items.now in
    let rects = c.args.rects.now in
    let nodes = c.args.layers.now in
    let n : ℕ = c.args.new in
    let b = c.index-items-new.result in
    let layer_of = layered.layer_of fixed in
    let reach_of = layered.layer_reach_of fixed in
    let b_at : slice_get items n ≡ Some b = slice_get_read items (length items) n b refl c.requires.there c.index-items-new.is in
    let layer_is : c.layer-layer.result ≡ layer_of b = c.layer-layer.ensures.is in
    let b_in : layer_of b < layered.layers_of fixed = rw (← layer_is) c.layer-layer.ensures.below in
    let reach_is : c.layer_reach-reach.result ≡ reach_of (layer_of b) = rw (← layer_is) c.layer_reach-reach.ensures in
    let read =
    found_read rects nodes c.layer-layer.result (layer_of b) c.layer_reach-reach.result
    (reach_of (layer_of b)) n c.index-layers-layer.result c.deref.result.now c.near_before.new.near.items layer_is reach_is
    (omega (arith, c.requires.layers.many, c.layer-layer.ensures.below)) c.index-layers-layer.is
    (c.deref.ensures.value ∙ c.of_layer.view_is) c.in_ok-near_before.ensures in
    let few =
    found_few (rule.Holds fixed) (rule.rect_of fixed) layer_of reach_of (g.met.R.LayeredRule.layered fixed)
    (g.met.R.LayeredRule.near_on_layer fixed) items rects c.requires.cut (layered.layers_of fixed) nodes c.requires.layers n b b_at b_in in
    let near_few = rw (← read) at few in
    let taken = count_by-le-length (λ a. near_on_layer (rule.rect_of fixed) layer_of reach_of a b) (take n items) in
    omega (arith, near_few, taken, length-take-le n items (omega arith), c.requires.looks)

pub returns-clause-found : goal.returns-clause-found
returns-clause-found g c =
    let rule = g.R.PairRule in
    let layered = g.R.LayeredRule in
    let fixed = rule.fixed c.args.rule.now in
    let items = c.args.items.now in
    let rects = c.args.rects.now in
    let nodes = c.args.layers.now in
    let n : ℕ = c.args.new in
    let b = c.index-items-new.result in
    let layer_of = layered.layer_of fixed in
    let reach_of = layered.layer_reach_of fixed in
    let b_at : slice_get items n ≡ Some b = slice_get_read items (length items) n b refl c.requires.there c.index-items-new.is in
    let layer_is : c.layer-layer.result ≡ layer_of b = c.layer-layer.ensures.is in
    let b_in : layer_of b < layered.layers_of fixed = rw (← layer_is) c.layer-layer.ensures.below in
    let reach_is : c.layer_reach-reach.result ≡ reach_of (layer_of b) = rw (← layer_is) c.layer_reach-reach.ensures in
    let read =
    found_read rects nodes c.layer-layer.result (layer_of b) c.layer_reach-reach.result
    (reach_of (layer_of b)) n c.index-layers-layer.result c.deref.result.now c.near_before.new.near.items layer_is reach_is
    (omega (arith, c.requires.layers.many, c.layer-layer.ensures.below)) c.index-layers-layer.is
    (c.deref.ensures.value ∙ c.of_layer.view_is) c.in_ok-near_before.ensures in
    let tests = c.in_ok-meet_waiting.ensures.tests in
    let new = rw read at c.in_ok-meet_waiting.ensures.found in
    found_all_pairs (rule.Holds fixed) (rule.rect_of fixed) layer_of reach_of (g.met.R.LayeredRule.layered fixed)
    (g.met.R.LayeredRule.near_on_layer fixed) items rects c.requires.cut (layered.layers_of fixed) nodes c.requires.layers n b b_at b_in
    g.S.PairSink.Takes _ (rule.tests_of c.meet_waiting.new.rule - rule.tests_of c.args.rule.now) c.args.sink.now c.meet_waiting.new.sink
    (rw (← read) (omega (arith, tests))) new

pub returns-clause-more : goal.returns-clause-more
returns-clause-more g c =
    let rule = g.R.PairRule in
    let counted =
    λ (x : ℕ). test_at (near_along_both c.layer_reach-reach.result) (map (rule.rect_of (rule.fixed c.args.rule.now)) c.args.items.now) x c.args.new in
    omega (arith, c.in_ok-meet_waiting.ensures.tests, c.in_ok-meet_waiting.ensures.looks, count_by-le-length counted c.near_before.new.near.items)

pub returns-clause-looks : goal.returns-clause-looks
returns-clause-looks g c =
    let rule = g.R.PairRule in
    let layered = g.R.LayeredRule in
    let fixed = rule.fixed c.args.rule.now in
    let items = c.args.items.now in
    let rects = c.args.rects.now in
    let nodes = c.args.layers.now in
    let n : ℕ = c.args.new in
    let b = c.index-items-new.result in
    let layer_of = layered.layer_of fixed in
    let reach_of = layered.layer_reach_of fixed in
    let b_at : slice_get items n ≡ Some b = slice_get_read items (length items) n b refl c.requires.there c.index-items-new.is in
    let layer_is : c.layer-layer.result ≡ layer_of b = c.layer-layer.ensures.is in
    let b_in : layer_of b < layered.layers_of fixed = rw (← layer_is) c.layer-layer.ensures.below in
    let reach_is : c.layer_reach-reach.result ≡ reach_of (layer_of b) = rw (← layer_is) c.layer_reach-reach.ensures in
    let read =
    found_read rects nodes c.layer-layer.result (layer_of b) c.layer_reach-reach.result
    (reach_of (layer_of b)) n c.index-layers-layer.result c.deref.result.now c.near_before.new.near.items layer_is reach_is
    (omega (arith, c.requires.layers.many, c.layer-layer.ensures.below)) c.index-layers-layer.is
    (c.deref.ensures.value ∙ c.of_layer.view_is) c.in_ok-near_before.ensures in
    let few =
    found_few (rule.Holds fixed) (rule.rect_of fixed) layer_of reach_of (g.met.R.LayeredRule.layered fixed)
    (g.met.R.LayeredRule.near_on_layer fixed) items rects c.requires.cut (layered.layers_of fixed) nodes c.requires.layers n b b_at b_in in
    let near_few = rw (← read) at few in
    let more = pairs_more (near_on_layer (rule.rect_of fixed) layer_of reach_of) items n b c.requires.there c.index-items-new.is in
    omega (arith, near_few, more, c.in_ok-meet_waiting.ensures.looks)
