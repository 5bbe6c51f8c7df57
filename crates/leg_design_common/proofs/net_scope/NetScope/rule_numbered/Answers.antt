use Rattle.std.proofs.Common.{◌≡◌, sym, ◌∙◌, length, ◌-◌, slice_get}
use Rattle.std.specs.Option.{option_copied}
use Rattle.leg_lemmas.proofs.Places.{in_first}
use Rattle.leg_design_common.proofs.ViaNumbers.{in_second, got_is}
use Rattle.leg_design_common.proofs.net_scope.NetScope.rule_numbered.Goals as goal

pub returns-then-number-of_design : goal.returns-then-number-of_design
returns-then-number-of_design g c =
    let h = c.get.ensures.lookup in
    let got : option_copied c.get.result ≡ slice_get c.as_slice-of_design.result.now c.args.number =
    got_is c.as_slice-of_design.result.now c.args.number c.get.result h.0 h.1 in
    rw (← c.self.view_is, ← c.as_slice-of_design.ensures.is)
    (got ∙ sym (in_first c.as_slice-of_design.result.now c.self.inside.library.now.rules c.args.number c.if-number-of_design.true))

pub returns-else-number-of_design : goal.returns-else-number-of_design
returns-else-number-of_design g c =
    let h = c.get-else-number-of_design.ensures.lookup in
    let got = got_is c.rules.result.now (c.args.number - length c.as_slice-of_design.result.now) c.get-else-number-of_design.result h.0 h.1 in
    rw (← c.self.view_is, ← c.as_slice-of_design.ensures.is)
    (got ∙ rw c.rules.ensures.is (sym (in_second c.as_slice-of_design.result.now c.self.inside.library.now.rules c.args.number c.if-number-of_design.false)))
