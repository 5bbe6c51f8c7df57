use Rattle.std.proofs.Common.{sym, w64, SFits, rules}
use Rattle.std.proofs.lemmas.Int.{to_z-of_z}
use Rattle.leg_app_message.proofs.conversion.in_macros.Goals as goal

pub returns-then-is_of_macro : goal.returns-then-is_of_macro
returns-then-is_of_macro g c = λ is.
    let fits : SFits w64 c.args.length = search rules in (
      c.master-item.result,
      (c.loop-master.master-index, c.loop-master-test.true, sym c.master-item.is),
      rw (to_z-of_z w64 c.args.length fits) at (c.is_of_macro.ensures c.if-is_of_macro.true),
    )
