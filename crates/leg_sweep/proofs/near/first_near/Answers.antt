-- A group that can't reach into the window gives nothing.
use Rattle.std.proofs.Common.{◌≡◌, ◌∷◌, ◌∙◌, false, sym}
use Rattle.std.proofs.lemmas.List.{take_rest}
use Rattle.leg_sweep.specs.Steps.Bounds.{meet}
use Rattle.leg_sweep.specs.Steps.Nodes.{IsSearch}
use Rattle.leg_sweep.proofs.NearNodes.{search_rest, passed_over, first_below, gives_nothing}
use Rattle.leg_sweep.proofs.near.first_near.Goals as goal

pub loop-node-preserved-then-not-can_meet : goal.loop-node-preserved-then-not-can_meet
loop-node-preserved-then-not-can_meet c =
    let rects = c.args.rects.now in
    let w = c.args.window.now in
    let node = c.in-Some.node.now in
    let rest = c.in-Some.rest.now in
    let search : IsSearch rects w (node ∷ rest) = rw (c.in-Some.ensures.cases.0) at c.loop-node.invariant.search in
    let far : meet w.bounds node.bounds ≡ false = sym c.can_meet.ensures ∙ c.if-not-can_meet.true in
    let passed = passed_over rects w node rest search far in
    rw (take_rest rest c.members.result, c.members.ensures) (record {
      same = (rw (c.in-Some.ensures.cases.0) at c.loop-node.invariant.same) ∙ passed.0;
      search = passed.1;
    })

pub near_in-requires : goal.near_in-requires
near_in-requires c =
    first_below c.args.rects.now c.args.window.now c.in-Some.node.now c.in-Some.rest.now (rw (c.in-Some.ensures.cases.0) at c.loop-node.invariant.search)

pub returns-in-Some-near_in-clause-search : goal.returns-in-Some-near_in-clause-search
returns-in-Some-near_in-clause-search c =
    search_rest c.args.rects.now c.args.window.now c.in-Some.node.now c.in-Some.rest.now (rw (c.in-Some.ensures.cases.0) at c.loop-node.invariant.search)

pub loop-node-preserved : goal.loop-node-preserved
loop-node-preserved c =
    let rects = c.args.rects.now in
    let w = c.args.window.now in
    let node = c.in-Some.node.now in
    let rest = c.in-Some.rest.now in
    let search : IsSearch rects w (node ∷ rest) = rw (c.in-Some.ensures.cases.0) at c.loop-node.invariant.search in
    record {
      same = (rw (c.in-Some.ensures.cases.0) at c.loop-node.invariant.same) ∙ gives_nothing rects w.rect w.reach node rest c.in_default-near_in.ensures;
      search = search_rest rects w node rest search;
    }
