-- The key of one more row.
use Rattle.std.proofs.Common.{◌≡◌, length, slice_get, Some, FitsSigned, w64, refl, arith, rules}
use Rattle.std.proofs.lemmas.Int.{to_z-of_z}
use Rattle.std.proofs.lemmas.Option.{slice_get_read}
use Rattle.leg_legal_sites.proofs.KeyOrder.{keys_more}
use Rattle.leg_legal_sites.proofs.row_keys.row_keys.Goals as goal

pub loop-i-preserved : goal.loop-i-preserved
loop-i-preserved g c =
    let there : slice_get c.args.rows.now c.loop-i.i ≡ Some c.index-rows-i.result =
    slice_get_read c.args.rows.now _ c.loop-i.i c.index-rows-i.result refl (omega arith) c.index-rows-i.is in
    let fits : FitsSigned w64 c.y.result = search rules in
    let fits_x : FitsSigned w64 c.x.result = search rules in
    let grown = simp to_z-of_z at c.in_ok-push.ensures.items in
    rw (grown, c.y.ensures.is, c.x.ensures.is) (keys_more c.args.rows.now c.loop-i.keys.items c.loop-i.i c.index-rows-i.result there c.loop-i.invariant)

pub returns : goal.returns
returns g c =
    let all : c.loop-i.i ≡ length c.args.rows.now = omega arith in
    rw (← all) c.loop-i.invariant
