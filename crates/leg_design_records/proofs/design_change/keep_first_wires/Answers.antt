-- The entry of the loop keeps its first wires.
use Rattle.std.proofs.Common.{rules, ◌≡◌, ◌<◌, length, take, get_or, sym, arith}
use Rattle.std.proofs.lemmas.List.{take_more, length-take-le}
use Rattle.leg_design_records.specs.Records.{NetModel}
use Rattle.leg_design_records.proofs.EachWith.{each_with_none, one_more_count}
use Rattle.leg_design_records.proofs.design_change.keep_first_wires.Goals as goal

pub loop-n-init : goal.loop-n-init
loop-n-init g c = sym (each_with_none _ c.args.nets.now)

pub loop-n-preserved : goal.loop-n-preserved
loop-n-preserved g c =
    let n = c.loop-n.n in
    let counts = c.args.counts.now in
    let within : n < length c.args.nets.now = search rules in
    let also : n < length counts = search rules in
    let net : NetModel = c.index-nets-n.result in
    let there : net ≡ get_or c.loop-n.nets n net = search rules in
    rw (take_more counts n 0 also)
    (one_more_count c.args.nets.now c.loop-n.nets (take n counts) n net _ (get_or counts n 0) c.loop-n.invariant
    (sym (length-take-le n counts (omega (arith, also)))) within there (search rules))
