-- One piece more is the least of a group, or it isn't.
use Rattle.std.proofs.lemmas.List.Elements.{All-push}
use Rattle.leg_route_grid.specs.Steps.Grid.{slot_total}
use Rattle.leg_finish_search.specs.Slots.{AreSlots}
use Rattle.leg_finish.proofs.to_join.groups_of.Goals as goal
use Rattle.leg_finish.proofs.to_join.groups_of.Goals.{then-first-piece+in_ok-group_of+in_ok-push, else-first-piece}

pub loop-piece-preserved : goal.loop-piece-preserved
loop-piece-preserved g c =
    let groups = c.loop-piece.groups.items in
    elim c.if-first-piece.branch [
      | then-first-piece+in_ok-group_of+in_ok-push w ↦
          rw (w.groups-is, w.in_ok-push.ensures.items)
          (All-push (AreSlots (slot_total c.args.grid.now)) groups w.in_ok-group_of.field-0 c.loop-piece.invariant w.in_ok-group_of.ensures)
      | else-first-piece w ↦ rw w.groups-is c.loop-piece.invariant
    ]
