use Rattle.std.specs.List.{AllZip}
use Rattle.leg_route_grid.specs.Steps.Grid.{IsNumberOf}
use Rattle.leg_route_grid.specs.Steps.NodeNumbers.{IsNextWalkAt}
use Rattle.leg_rules.specs.Route.Run.{IsNextWalk}
use Rattle.leg_route.proofs.NextWalk.{walk_of}
use Rattle.leg_route.proofs.next_wires.next_wires.Goals as goal

pub wires_of-requires-clause-walk : goal.wires_of-requires-clause-walk
wires_of-requires-clause-walk g c =
    let grid = c.args.grid.now in
    let design = c.args.design.now in
    let flat = c.args.flat.now in
    let net = c.args.net in
    let numbers = c.in-Some.walk.items in
    let nodes = c.in_ok-nodes.nodes.items in
    let proper = c.grid_is_sound.ensures.proper in
    let walk : IsNextWalkAt grid flat net numbers = rw c.in-Some.is at c.in_ok-found.ensures.answer in
    let each : AllZip (IsNumberOf grid) numbers nodes = rw c.deref.ensures.value at c.in_ok-nodes.ensures in
    let next : IsNextWalk design flat net nodes =
    walk_of grid design flat net numbers nodes c.requires.of_design (λ n a b. c.nodes_have_numbers.ensures.apart grid n a b proper)
    (c.numbers_walk_as_nodes.ensures.shortest grid flat net numbers proper walk) each in
    rw c.deref-2.ensures.value (c.open_walks_are_grid_walks.ensures design flat net nodes next)

pub returns-clause-answer : goal.returns-clause-answer
returns-clause-answer g c =
    let grid = c.args.grid.now in
    let design = c.args.design.now in
    let flat = c.args.flat.now in
    let net = c.args.net in
    let numbers = c.in-Some.walk.items in
    let nodes = c.in_ok-nodes.nodes.items in
    let proper = c.grid_is_sound.ensures.proper in
    let walk : IsNextWalkAt grid flat net numbers = rw c.in-Some.is at c.in_ok-found.ensures.answer in
    let each : AllZip (IsNumberOf grid) numbers nodes = rw c.deref.ensures.value at c.in_ok-nodes.ensures in
    record {
      nodes = nodes;
      walk = walk_of grid design flat net numbers nodes c.requires.of_design (λ n a b. c.nodes_have_numbers.ensures.apart grid n a b proper)
          (c.numbers_walk_as_nodes.ensures.shortest grid flat net numbers proper walk) each;
      are = rw c.deref-2.ensures.value at c.in_ok-wires.ensures.wires;
      spelled = c.in_ok-wires.ensures.spelled;
    }
