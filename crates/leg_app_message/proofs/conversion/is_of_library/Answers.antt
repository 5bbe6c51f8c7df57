use Rattle.std.proofs.Common.{◌∙◌, sym, w64, SFits, rules}
use Rattle.std.proofs.lemmas.Int.{to_z-of_z}
use Rattle.leg_app_message.proofs.conversion.is_of_library.Goals as goal

pub returns : goal.returns
returns g c = λ is.
    let fits : SFits w64 c.millionths.result = search rules in (
      c.in-Ok.length,
      sym c.micron.ensures ∙ c.in-Ok.is,
      rw (to_z-of_z w64 c.millionths.result fits, c.millionths.ensures.is) at (c.has_length.ensures is),
    )
