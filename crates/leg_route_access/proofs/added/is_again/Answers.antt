-- The one before it is among those before it.
use Rattle.std.proofs.Common.{◌≡◌, ◌-◌, ◌<◌, Some, slice_get, refl, sym, ◌∙◌, arith}
use Rattle.std.proofs.lemmas.Option.{same_Some, slice_get_read}
use Rattle.leg_route_access.proofs.SameShapes.{same_shape}
use Rattle.leg_route_access.proofs.SlotsInTurn.{among_before}
use Rattle.leg_route_access.proofs.added.is_again.Goals as goal

pub returns : goal.returns
returns c shape there again =
    let shapes = c.args.shapes.now in
    let k = c.args.k in
    let a = c.index-shapes-before.result in
    let b = c.index-shapes-k.result in
    let some : 0 < k = omega arith in
    let a_at : slice_get shapes (k - 1) ≡ Some a = slice_get_read shapes _ (k - 1) a refl (omega arith) c.index-shapes-before.is in
    let b_at : slice_get shapes k ≡ Some b = slice_get_read shapes _ k b refl c.requires c.index-shapes-k.is in
    among_before shapes k a shape some c.requires a_at (same_shape a b (c.is_same.ensures.0 again) ∙ same_Some b shape (sym b_at ∙ there))
