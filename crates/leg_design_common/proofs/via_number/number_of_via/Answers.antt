use Rattle.std.proofs.Common.{sym, arith}
use Rattle.std.proofs.lemmas.List.{length-take-le}
use Rattle.leg_design_common.proofs.ViaNumbers.{place_within, named_second}
use Rattle.leg_design_common.proofs.via_number.number_of_via.Goals as goal

pub slice_bounds-before-end : goal.slice_bounds-before-end
slice_bounds-before-end g c =
    let within = place_within c.args.name.now c.args.vias.now c.in_ok-number-in-None.number c.in_ok-number-in-None.ensures.is in
    rw c.as_slice.ensures.is (sym (length-take-le c.in_ok-number-in-None.number c.args.vias.now (omega (arith, within))))

pub returns-in_ok-number-in-None : goal.returns-in_ok-number-in-None
returns-in_ok-number-in-None g c =
    let within = place_within c.args.name.now c.args.vias.now c.in_ok-number-in-None.number c.in_ok-number-in-None.ensures.is in
    rw (c.vias.ensures.is, c.as_slice.ensures.is, length-take-le c.in_ok-number-in-None.number c.args.vias.now (omega (arith, within)))
    (named_second c.args.library.now c.args.vias.now c.args.name.now c.in_ok-number-in-None.number c.in-None.ensures
    c.in_ok-number-in-None.ensures.is)
