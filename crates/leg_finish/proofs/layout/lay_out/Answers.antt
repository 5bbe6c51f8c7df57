use Rattle.std.proofs.Common.{◌≡◌, ◌<◌, [], IsTrue, length, map, replicate, get_or, refl, sym, ap, ◌∙◌, arith}
use Rattle.std.proofs.lemmas.List.{length-map}
use Rattle.std.proofs.lemmas.List.Elements.{All-get_or}
use Rattle.leg_finish.specs.Steps.OpenNets.{IsOpenWith}
use Rattle.leg_finish.proofs.WiresByNet.{laid_first, laid_next}
use Rattle.leg_finish.proofs.layout.lay_out.Goals as goal

pub loop-place-init : goal.loop-place-init
loop-place-init g c =
    let design = c.args.design.now in
    let lists = map (λ wires. wires.items) c.in_ok-lists.lists.items in
    let empty : lists ≡ replicate (length design.nets) [] = c.in_ok-lists.ensures ∙ ap (λ n. replicate n []) (ap length c.nets.ensures.is) in
    let laid = laid_first c.no_wires_by_net.ensures design c.args.flat.now lists empty in
    record {
      count = sym (length-map c.in_ok-lists.lists.items (λ wires. wires.items)) ∙ laid.by_net.one_each;
      laid = laid;
      nets = refl;
    }

pub lay_net-requires-clause-in_range : goal.lay_net-requires-clause-in_range
lay_net-requires-clause-in_range g c =
    let design = c.args.design.now in
    let flat = c.args.flat.now in
    let nets = c.args.nets.now in
    let one = c.index-nets-place.result in
    let with : IsOpenWith design flat (get_or nets c.loop-place.place one) =
    All-get_or (IsOpenWith design flat) nets c.loop-place.place one c.loop-place-test.true c.requires.nets.each in
    let low = with.is_open.1.net in
    omega (arith, low, c.requires.in_range, c.loop-place.invariant.nets)

pub lay_net-requires-clause-listed : goal.lay_net-requires-clause-listed
lay_net-requires-clause-listed g c =
    let design = c.args.design.now in
    let flat = c.args.flat.now in
    let nets = c.args.nets.now in
    let one = c.index-nets-place.result in
    let with : IsOpenWith design flat (get_or nets c.loop-place.place one) =
    All-get_or (IsOpenWith design flat) nets c.loop-place.place one c.loop-place-test.true c.requires.nets.each in
    let low = with.is_open.1.net in
    let listed : (get_or nets c.loop-place.place one).net < length c.loop-place.lists.items = omega (arith, low, c.loop-place.invariant.count) in
    listed

pub loop-place-preserved : goal.loop-place-preserved
loop-place-preserved g c =
    let design = c.args.design.now in
    let flat = c.args.flat.now in
    let nets = c.args.nets.now in
    let one = c.index-nets-place.result in
    let net = get_or nets c.loop-place.place one in
    let with : IsOpenWith design flat net = All-get_or (IsOpenWith design flat) nets c.loop-place.place one c.loop-place-test.true c.requires.nets.each in
    let yes : IsTrue c.in_ok-lay_net.field-0 = c.if-not-branch.false in
    record {
      count = c.lay_net.ensures.count ∙ c.loop-place.invariant.count;
      laid = laid_next c.growth_goes_on.ensures c.more_wires_by_net.ensures design flat c.loop-place.flat c.lay_net.new.flat net.net
          (map (λ wires. wires.items) c.loop-place.lists.items)
          (map (λ wires. wires.items) c.lay_net.new.lists.items) c.loop-place.invariant.laid with.is_open (c.in_ok-lay_net.ensures.laid yes);
      nets = c.in_ok-lay_net.ensures.nets yes ∙ c.loop-place.invariant.nets;
    }
