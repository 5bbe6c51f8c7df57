use Rattle.std.proofs.Common.{◌↔◌, ℕ, Contains}
use Rattle.leg_route_grid.specs.Steps.Grid.{IsNumberOf}
use Rattle.leg_rules.specs.Route.Meets.{MeetsJoined, MeetsRest}
use Rattle.leg_route_grid.specs.Steps.NodeNumbers.{IsOneOf}
use Rattle.leg_route.proofs.NextWalk.{answer_at, answer_within}
use Rattle.leg_route.proofs.next_wires.walk_further.Goals as goal

pub returns-clause-answer : goal.returns-clause-answer
returns-clause-answer g c =
    let grid = c.args.grid.now in
    let flat = c.args.flat.now in
    let slots = c.args.slots.now in
    let net = c.args.net in
    let starts = c.deref-2.result.now in
    let ends = c.deref-3.result.now in
    let first : (n : ℕ) → Contains starts n ↔ IsOneOf (IsNumberOf grid) (MeetsJoined flat net) n = rw c.deref-2.ensures.value c.requires.given.are in
    let last : (n : ℕ) → Contains ends n ↔ IsOneOf (IsNumberOf grid) (MeetsRest flat net) n = rw c.deref-3.ensures.value c.requires.ends in
    let origin = c.as_slice.result.now in
    let around = c.as_slice-2.result.now in
    let law = c.searches_walk_as_numbers.ensures in
    let proper = c.grid_is_sound.ensures.proper in
    let sound = c.grid_is_sound.ensures.library in
    let told = c.requires.given.told in
    answer_at grid flat slots net origin around starts ends
    (λ numbers is. law.shortest grid origin around flat slots net starts ends numbers proper sound told first last is)
    (λ none. law.none grid origin around flat slots net starts ends proper sound told first last none) _ c.in_ok-walk.ensures.found

pub returns-clause-within : goal.returns-clause-within
returns-clause-within g c =
    let grid = c.args.grid.now in
    let slots = c.args.slots.now in
    let net = c.args.net in
    let starts = c.deref-2.result.now in
    let ends = c.deref-3.result.now in
    let origin = c.as_slice.result.now in
    let around = c.as_slice-2.result.now in
    answer_within grid c.args.flat.now slots net origin around starts ends
    (λ numbers is. c.searches_walk_as_numbers.ensures.within grid origin around slots net starts ends numbers c.requires.given.told.count is) (λ v. v.items)
    c.in_ok-walk.walk c.in_ok-walk.ensures.found
