use Rattle.std.proofs.Common.{false}
use Rattle.std.proofs.lemmas.List.Elements.{All-nil, All-append}
use Rattle.leg_design_records.specs.WellFormedNets.{IsWire}
use Rattle.leg_finish.proofs.WalkWires.{none_of_walks, walks_append}
use Rattle.leg_finish.proofs.wires.wires_of_walks.Goals as goal

pub loop-walk-init : goal.loop-walk-init
loop-walk-init g c =
    let design = c.args.design.now in
    rw c.new-wires.ensures.items (record { walks = none_of_walks; spelled = All-nil (IsWire design.library design.vias false) })

pub loop-walk-preserved : goal.loop-walk-preserved
loop-walk-preserved g c =
    let design = c.args.design.now in
    let before = c.loop-walk.invariant in
    let walks = rw c.in-Some.is at c.in_ok-more.ensures.walks in
    let spelled = rw c.in-Some.is at c.in_ok-more.ensures.spelled in
    rw c.in_ok-append.ensures.items (record {
      walks = walks_append before.walks walks;
      spelled = All-append (IsWire design.library design.vias false) c.loop-walk.wires.items c.in-Some.more.items before.spelled spelled;
    })
