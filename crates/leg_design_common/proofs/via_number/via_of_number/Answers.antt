use Rattle.std.proofs.Common.{◌≡◌, sym, ◌∙◌, length, ◌-◌, slice_get}
use Rattle.std.specs.Option.{option_copied}
use Rattle.leg_lemmas.proofs.Places.{in_first}
use Rattle.leg_design_common.proofs.ViaNumbers.{in_second, got_is}
use Rattle.leg_design_common.proofs.via_number.via_of_number.Goals as goal

pub returns-then-number-of_library : goal.returns-then-number-of_library
returns-then-number-of_library g c =
    let h = c.get.ensures.lookup in
    let got : option_copied c.get.result ≡ slice_get c.vias-of_library.result.now c.args.number =
    got_is c.vias-of_library.result.now c.args.number c.get.result h.0 h.1 in
    rw (← c.vias-of_library.ensures.is)
    (got ∙ sym (in_first c.vias-of_library.result.now c.args.vias.now c.args.number c.if-number-of_library.true))

pub returns-else-number-of_library : goal.returns-else-number-of_library
returns-else-number-of_library g c =
    let h = c.get-else-number-of_library.ensures.lookup in
    let got = got_is c.as_slice.result.now (c.args.number - length c.vias-of_library.result.now) c.get-else-number-of_library.result h.0 h.1 in
    rw (← c.vias-of_library.ensures.is)
    (got ∙ rw c.as_slice.ensures.is (sym (in_second c.vias-of_library.result.now c.args.vias.now c.args.number c.if-number-of_library.false)))
