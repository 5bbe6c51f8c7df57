-- A group of one end, and one end more.
use Rattle.std.proofs.Common.{◌≡◌, ◌<◌, ℕ, Some, slice_get, get_or, length, refl, arith}
use Rattle.std.proofs.Math.Nat.{min-le_left, min-le_right}
use Rattle.std.proofs.lemmas.List.Elements.{All-get_or}
use Rattle.std.proofs.lemmas.Option.{slice_get-get_or}
use Rattle.leg_route_grid.specs.declared.slot_box.SlotBox.{SlotBox}
use Rattle.leg_route_grid.specs.Steps.Grid.{slot_total}
use Rattle.leg_route_grid.specs.Steps.WalkBounds.{IsInBox}
use Rattle.leg_route.specs.declared.end_slots.EndSlot.{EndSlot}
use Rattle.leg_route.proofs.EndGroups.{no_end, slot_in, group_more, least_more, group_one, least_one}
use Rattle.leg_route.proofs.net_ends.group_at.Goals as goal

pub loop-k-init : goal.loop-k-init
loop-k-init g c =
    let grid = c.args.grid.now in
    let listed = c.args.listed.now in
    let first : ℕ = c.args.first in
    let low : first < length listed = omega (arith, c.requires.some, c.requires.room) in
    let end : EndSlot = get_or listed first no_end in
    let there : slice_get listed first ≡ Some end = slice_get-get_or listed first no_end low in
    let slot = c.slot-slot.result in
    let ends : SlotBox = record { low = slot; high = slot } in
    let inside : IsInBox ends slot = record {
      low_layer = omega arith;
      high_layer = omega arith;
      low_row = omega arith;
      high_row = omega arith;
      low_column = omega arith;
      high_column = omega arith;
    } in
    let within : end.slot < slot_total grid = All-get_or (λ (end : EndSlot). end.slot < slot_total grid) listed first no_end low c.requires.within in
    record {
      first = refl;
      count = refl;
      is = group_one grid listed first end there ends (slot_in grid ends end.slot slot within c.slot-slot.ensures.is inside);
      least = least_one grid listed first end there ends;
    }

pub loop-k-preserved : goal.loop-k-preserved
loop-k-preserved g c =
    let grid = c.args.grid.now in
    let listed = c.args.listed.now in
    let so_far = c.loop-k.invariant in
    let group = c.loop-k.group in
    let k : ℕ = c.loop-k.k in
    let low : k < length listed = omega (arith, c.requires.room, c.loop-k-test.true) in
    let end : EndSlot = get_or listed k no_end in
    let there : slice_get listed k ≡ Some end = slice_get-get_or listed k no_end low in
    let within : end.slot < slot_total grid = All-get_or (λ (end : EndSlot). end.slot < slot_total grid) listed k no_end low c.requires.within in
    let first = min-le_left group.least end.least in
    let second = min-le_right group.least end.least in
    let count = so_far.count in
    record {
      first = so_far.first;
      count = omega (arith, count);
      is = group_more grid listed group k end count there c.wider.result c.min.result so_far.is
          (slot_in grid c.wider.result end.slot c.slot.result within c.slot.ensures.is c.wider.ensures.here) c.wider.ensures.still;
      least = least_more grid listed group k end count there c.wider.result c.min.result so_far.least
          (let is = c.min.ensures in omega (arith, is, first)) (let is = c.min.ensures in omega (arith, is, second));
    }
