use Rattle.std.proofs.Common.{sym, arith}
use Rattle.std.proofs.lemmas.List.{length-take-le}
use Rattle.leg_design_common.proofs.RuleNumbers.{rule_within, rule_second}
use Rattle.leg_design_common.proofs.net_scope.NetScope.rule_named.Goals as goal

pub slice_bounds-before-end : goal.slice_bounds-before-end
slice_bounds-before-end g c =
    let within = rule_within c.args.name.now c.self.inside.library.now c.in_ok-number-in-None.number c.in_ok-number-in-None.ensures in
    rw c.rules.ensures.is (sym (length-take-le c.in_ok-number-in-None.number c.self.inside.library.now.rules (omega (arith, within))))

pub returns-in_ok-number-in-None : goal.returns-in_ok-number-in-None
returns-in_ok-number-in-None g c =
    let within = rule_within c.args.name.now c.self.inside.library.now c.in_ok-number-in-None.number c.in_ok-number-in-None.ensures in
    let many = length-take-le c.in_ok-number-in-None.number c.self.inside.library.now.rules (omega (arith, within)) in
    rw (c.as_slice.ensures.is, c.rules.ensures.is, many, ← c.self.view_is)
    (rule_second c.self.inside.rules.now c.self.inside.library.now c.args.name.now c.in_ok-number-in-None.number c.in-None.ensures.is
    c.in_ok-number-in-None.ensures)
