use Rattle.std.proofs.Common.{◌≡◌, ℕ, ◌<◌, length, drop, get_or, map, sym, ap, ◌∙◌, arith}
use Rattle.std.proofs.lemmas.List.{take_at, get_or-map}
use Rattle.leg_sweep.proofs.LayerNodes.{keys_none, keys_more}
use Rattle.leg_sweep.proofs.layer_nodes.keys_by_layer.Goals as goal

pub loop-number-init : goal.loop-number-init
loop-number-init g c =
    let layered = g.R.LayeredRule in
    let fixed = g.R.PairRule.fixed c.args.rule.now in
    rw (c.in_ok-layers.ensures, c.layers.ensures) (keys_none (map (layered.layer_of fixed) c.args.items.now) (layered.layers_of fixed))

pub push_key-requires : goal.push_key-requires
push_key-requires g c = rw c.deref_mut.ensures.value (omega (arith, c.layer.ensures.below, c.loop-number.invariant.many))

pub loop-number-preserved : goal.loop-number-preserved
loop-number-preserved g c =
    let layered = g.R.LayeredRule in
    let fixed = g.R.PairRule.fixed c.args.rule.now in
    let items = c.args.items.now in
    let layer_of = layered.layer_of fixed in
    let number : ℕ = c.loop-number.number in
    let a = c.index-items-number.result in
    let within : number < length items = omega arith in
    let here : get_or (map layer_of items) number 0 ≡ c.layer.result =
    get_or-map layer_of items number a 0 within ∙ ap layer_of (sym c.index-items-number.is) ∙ sym c.layer.ensures.is in
    let more =
    keys_more (map layer_of items) (layered.layers_of fixed) number c.layer.result c.curve_key.result c.loop-number.layers.items c.loop-number.invariant here
    c.layer.ensures.below in
    let pushed = rw c.deref_mut.ensures.value at c.in_ok-push_key.ensures in
    let count : length c.push_key.new.layers ≡ c.loop-number.layers.len = omega arith in
    let whole = take_at c.push_key.new.layers (drop (length c.push_key.new.layers) c.loop-number.layers.items) c.loop-number.layers.len count in
    rw (whole, pushed) more
