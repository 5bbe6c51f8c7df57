use Rattle.std.proofs.Common.{◌≡◌, Some, slice_get, refl}
use Rattle.std.proofs.lemmas.Option.{slice_get_read}
use Rattle.leg_route_grid.proofs.StepsAt.{some_at}
use Rattle.leg_route_access.proofs.SlotsInTurn.{without_it, told_next, told_again}
use Rattle.leg_route_access.proofs.added.add_unless_again.Goals as goal

pub returns-then-is_again-clause-told : goal.returns-then-is_again-clause-told
returns-then-is_again-clause-told g c before tells flat are =
    let shape = some_at c.args.shapes.now c.args.k c.requires.within in
    told_again c.args.grid.now c.args.shapes.now c.args.k shape.value shape.there before flat are c.grid_is_sound.ensures.proper
    (c.is_again.ensures shape.value shape.there c.if-is_again.true) c.args.slots.now
    (tells (without_it c.args.grid.now c.args.shapes.now c.args.k shape.value shape.there before flat are) refl)

pub returns-clause-told : goal.returns-clause-told
returns-clause-told g c before tells flat are =
    let shape = c.index-shapes-k.result in
    let at : slice_get c.args.shapes.now c.args.k ≡ Some shape = slice_get_read c.args.shapes.now _ c.args.k shape refl c.requires.within c.index-shapes-k.is in
    told_next c.args.grid.now c.args.shapes.now c.args.k shape at before flat are c.args.slots.now c.add_shape.new.slots c.add_shape.ensures.told
    (tells (without_it c.args.grid.now c.args.shapes.now c.args.k shape at before flat are) refl)
