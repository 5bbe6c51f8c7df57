use Rattle.std.proofs.Common.{◌≡◌, ℕ, ◌<◌, length, get_or, ap, ◌∙◌, sym, arith}
use Rattle.std.proofs.lemmas.List.{get_or_default, take_all}
use Rattle.std.proofs.lemmas.List.Elements.{All-more}
use Rattle.test_route_search.specs.declared.maze.Place.{Place}
use Rattle.test_route_search.specs.Maze.{nowhere, numbered_place}
use Rattle.test_route_search.proofs.tests.are_goals.Goals as goal

pub loop-node-preserved : goal.loop-node-preserved
loop-node-preserved c =
    let places = c.args.maze.now.places.items in
    let nodes = c.args.nodes.now in
    let i : ℕ = c.loop-node.node-index in
    let there : i < length nodes = omega arith in
    let within : get_or nodes i 0 < length places = c.requires i 0 there in
    let read : c.index.result.now ≡ numbered_place places (get_or nodes i 0) =
    c.index.ensures ∙ get_or_default places (get_or nodes i 0) c.index.result.now nowhere within in
    All-more (λ a. (numbered_place places a).left ≡ 0) nodes i 0 there c.loop-node.invariant (sym (ap (λ (p : Place). p.left) read) ∙ c.if-index-ne0.false)

pub returns : goal.returns
returns c = λ _. rw (take_all c.loop-node.node-index c.args.nodes.now (omega arith)) at c.loop-node.invariant
