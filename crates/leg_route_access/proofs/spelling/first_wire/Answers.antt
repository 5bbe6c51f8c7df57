use Rattle.std.proofs.Common.{◌≡◌, Some, slice_get, length, refl, arith}
use Rattle.std.proofs.lemmas.Bool.{false≢true}
use Rattle.std.proofs.lemmas.Option.{slice_get_read}
use Rattle.leg_rules.specs.Route.Spelling.{IsOnLayer}
use Rattle.leg_route_access.proofs.FirstSteps.{by_via, first_beside, first_any}
use Rattle.leg_route_access.proofs.GridWires.{node_routes, node_position, line_is_wire, via_is_wire}
use Rattle.leg_route_access.proofs.WalkWires.{along_run, through_step}
use Rattle.leg_route_access.proofs.spelling.first_wire.Goals as goal

pub via_step-requires : goal.via_step-requires
via_step-requires g c =
    let nodes = c.args.nodes.now in
    let from : slice_get nodes 0 ≡ Some c.index-nodes-0.result = slice_get_read nodes (length nodes) 0 _ refl (omega arith) c.index-nodes-0.is in
    let next : slice_get nodes 1 ≡ Some c.index-nodes-1.result = slice_get_read nodes (length nodes) 1 _ refl c.requires.many c.index-nodes-1.is in
    rw c.requires.of_design
    (by_via c.args.design.now c.side_of-side.result c.index-nodes-0.result c.index-nodes-1.result (λ on. false≢true (c.if-stays_on_layer.ensures.1 on))
    (first_beside c.args.design.now nodes c.requires.walk _ _ from next c.side_of-side.result c.side_of-side.ensures))

pub segment-requires : goal.segment-requires
segment-requires g c =
    let nodes = c.args.nodes.now in
    let from : slice_get nodes 0 ≡ Some c.index-nodes-0.result = slice_get_read nodes (length nodes) 0 _ refl (omega arith) c.index-nodes-0.is in
    node_routes c.args.design.now c.index-nodes-0.result (c.requires.walk.each 0 _ from)

pub returns-then-stays_on_layer-clause-begins : goal.returns-then-stays_on_layer-clause-begins
returns-then-stays_on_layer-clause-begins g c =
    let nodes = c.args.nodes.now in
    let from : slice_get nodes 0 ≡ Some c.index-nodes-0.result = slice_get_read nodes (length nodes) 0 _ refl (omega arith) c.index-nodes-0.is in
    let next : slice_get nodes 1 ≡ Some c.index-nodes-1.result = slice_get_read nodes (length nodes) 1 _ refl c.requires.many c.index-nodes-1.is in
    let last : slice_get nodes c.run_length-steps.result ≡ Some c.index-nodes-steps.result =
    slice_get_read nodes (length nodes) c.run_length-steps.result _ refl c.run_length-steps.ensures.within c.index-nodes-steps.is in
    let on : IsOnLayer c.side_of-side.result = c.if-stays_on_layer.ensures.0 refl in
    let first = first_any c.args.design.now nodes c.requires.walk _ _ from next c.side_of-side.result c.side_of-side.ensures in
    let run =
    along_run c.args.design.now c.side_of-side.result nodes c.run_length-steps.result _ _ on c.requires.walk first (record {
      some = c.run_length-steps.ensures.some;
      within = c.run_length-steps.ensures.within;
      run = c.run_length-steps.ensures.run;
      begins = from;
      ends = last;
    }) in
    run.begins c.segment.result c.segment.ensures

pub returns-then-stays_on_layer-clause-spelled : goal.returns-then-stays_on_layer-clause-spelled
returns-then-stays_on_layer-clause-spelled g c =
    let nodes = c.args.nodes.now in
    let from : slice_get nodes 0 ≡ Some c.index-nodes-0.result = slice_get_read nodes (length nodes) 0 _ refl (omega arith) c.index-nodes-0.is in
    let next : slice_get nodes 1 ≡ Some c.index-nodes-1.result = slice_get_read nodes (length nodes) 1 _ refl c.requires.many c.index-nodes-1.is in
    let last : slice_get nodes c.run_length-steps.result ≡ Some c.index-nodes-steps.result =
    slice_get_read nodes (length nodes) c.run_length-steps.result _ refl c.run_length-steps.ensures.within c.index-nodes-steps.is in
    let on : IsOnLayer c.side_of-side.result = c.if-stays_on_layer.ensures.0 refl in
    let first = first_any c.args.design.now nodes c.requires.walk _ _ from next c.side_of-side.result c.side_of-side.ensures in
    let run =
    along_run c.args.design.now c.side_of-side.result nodes c.run_length-steps.result _ _ on c.requires.walk first (record {
      some = c.run_length-steps.ensures.some;
      within = c.run_length-steps.ensures.within;
      run = c.run_length-steps.ensures.run;
      begins = from;
      ends = last;
    }) in
    line_is_wire c.args.design.now c.index-nodes-0.result c.segment.result
    (node_position c.args.design.now _ c.is_proper.ensures (c.requires.walk.each 0 _ from)) c.side_of-side.result c.index-nodes-steps.result
    (node_position c.args.design.now _ c.is_proper.ensures (c.requires.walk.each c.run_length-steps.result _ last)) on run.due_is c.segment.ensures

pub returns-else-stays_on_layer-clause-begins : goal.returns-else-stays_on_layer-clause-begins
returns-else-stays_on_layer-clause-begins g c =
    let nodes = c.args.nodes.now in
    let from : slice_get nodes 0 ≡ Some c.index-nodes-0.result = slice_get_read nodes (length nodes) 0 _ refl (omega arith) c.index-nodes-0.is in
    let next : slice_get nodes 1 ≡ Some c.index-nodes-1.result = slice_get_read nodes (length nodes) 1 _ refl c.requires.many c.index-nodes-1.is in
    through_step c.args.design.now nodes c.index-nodes-0.result c.index-nodes-1.result c.via_step.result from next
    (rw c.requires.of_design at c.via_step.ensures)

pub returns-else-stays_on_layer-clause-spelled : goal.returns-else-stays_on_layer-clause-spelled
returns-else-stays_on_layer-clause-spelled g c =
    let nodes = c.args.nodes.now in
    let from : slice_get nodes 0 ≡ Some c.index-nodes-0.result = slice_get_read nodes (length nodes) 0 _ refl (omega arith) c.index-nodes-0.is in
    via_is_wire c.args.design.now c.index-nodes-0.result c.via_step.result
    (node_position c.args.design.now _ c.is_proper.ensures (c.requires.walk.each 0 _ from)) c.index-nodes-1.result
    (rw c.requires.of_design at c.via_step.ensures)
