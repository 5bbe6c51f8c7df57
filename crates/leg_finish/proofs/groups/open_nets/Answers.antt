use Rattle.std.proofs.Common.{◌≡◌, ◌<◌, ◌∷◌, length, ap, ◌∙◌, arith}
use Rattle.leg_finish.specs.Steps.OpenNets.{AreListsFrom}
use Rattle.leg_finish.proofs.OpenNets.{none_open, all_open, lists_first, list_here, lists_next}
use Rattle.leg_finish.proofs.RemainingNets.{few_open}
use Rattle.leg_finish.proofs.groups.open_nets.Goals as goal

pub loop-shapes-init : goal.loop-shapes-init
loop-shapes-init g c =
    let design = c.args.design.now in
    let flat = c.args.flat.now in
    let count : length c.nets.result.now ≡ length design.nets = ap length c.nets.ensures.is in
    let first = lists_first flat (length design.nets) c.in_ok-numbers.numbers.items (c.in_ok-numbers.ensures.long ∙ count)
    (λ net low. rw (← c.shapes.ensures.is) (c.in_ok-numbers.ensures.each net (omega (arith, low, count)))) in
    record { lists = rw c.into_iter-shapes-iterator.ensures.into_iter_gives.0 first; found = rw c.new-found.ensures.items (none_open design flat) }

pub push_if_open-requires-clause-shapes : goal.push_if_open-requires-clause-shapes
push_if_open-requires-clause-shapes g c =
    list_here c.args.flat.now c.loop-shapes.net (length c.args.design.now.nets) c.in-Some.shapes c.next.new.self.rest.items
    (rw c.in-Some.ensures.steps.0 at c.loop-shapes.invariant.lists)

pub loop-shapes-preserved : goal.loop-shapes-preserved
loop-shapes-preserved g c =
    let design = c.args.design.now in
    let net = c.loop-shapes.net in
    let more = c.next.new.self.rest.items in
    let lists : AreListsFrom c.args.flat.now net (length design.nets) (c.in-Some.shapes ∷ more) =
    rw c.in-Some.ensures.steps.0 at c.loop-shapes.invariant.lists in
    let entry : net < length design.nets = let count = lists.count_is in omega (arith, count) in
    record {
      lists = lists_next c.args.flat.now net (length design.nets) c.in-Some.shapes more lists;
      found = c.in_ok-push_if_open.ensures design entry c.loop-shapes.invariant.found;
    }

pub returns-clause-are : goal.returns-clause-are
returns-clause-are g c =
    let rest = c.loop-shapes.shapes-iterator.rest in
    let none = c.in-None.ensures.steps.0 in
    let count = c.loop-shapes.invariant.lists.count_is in
    all_open c.args.design.now c.args.flat.now c.loop-shapes.net c.loop-shapes.found.items (omega (arith, none, rest.ok.0, count)) c.loop-shapes.invariant.found

pub returns-clause-few : goal.returns-clause-few
returns-clause-few g c =
    let rest = c.loop-shapes.shapes-iterator.rest in
    let none = c.in-None.ensures.steps.0 in
    let count = c.loop-shapes.invariant.lists.count_is in
    let are =
    all_open c.args.design.now c.args.flat.now c.loop-shapes.net c.loop-shapes.found.items
    (omega (arith, none, rest.ok.0, count)) c.loop-shapes.invariant.found in
    let open_ones = few_open c.args.design.now c.args.flat.now c.loop-shapes.found.items are in
    let entries = c.nets.ensures.proper.nets.few in
    omega (arith, open_ones, entries)
