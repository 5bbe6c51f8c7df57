use Rattle.std.proofs.Common.{ℕ, ◌<◌, length, get_or, arith}
use Rattle.std.proofs.lemmas.List.{take_all}
use Rattle.std.proofs.lemmas.List.Elements.{All-more}
use Rattle.test_route_search.proofs.tests.are_places.Goals as goal

pub loop-node-preserved : goal.loop-node-preserved
loop-node-preserved c =
    let places = c.args.maze.now.places.items in
    let nodes = c.args.nodes.now in
    let i : ℕ = c.loop-node.node-index in
    let there : i < length nodes = omega arith in
    let counted = c.len.ensures in
    let below = c.if-node-len.false in
    let within : get_or nodes i 0 < length places = omega arith in
    All-more (λ a. a < length places) nodes i 0 there c.loop-node.invariant within

pub returns : goal.returns
returns c = λ _. rw (take_all c.loop-node.node-index c.args.nodes.now (omega arith)) at c.loop-node.invariant
