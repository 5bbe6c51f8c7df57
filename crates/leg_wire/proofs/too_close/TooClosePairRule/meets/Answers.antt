-- But for its counts the rule stays as it was.
use Rattle.std.proofs.Common.{◌≤◌, ℕ, ap}
use Rattle.leg_rules.specs.Spacing.RequiredSpacing.{greatest_spacing_on}
use Rattle.leg_wire.specs.declared.too_close.TooClose.{TooClose}
use Rattle.leg_wire.proofs.ReachBound.{one_bound}
use Rattle.leg_wire.proofs.too_close.TooClosePairRule.meets.Goals as goal

pub returns-clause-same : goal.returns-clause-same
returns-clause-same g c =
    let rule = c.args.self.now in
    let with_bound : ((layer : ℕ) → greatest_spacing_on rule.library.now layer ≤ rule.reach) → TooClose g.row.A.Denot =
    λ bound. record { library = rule.library; reach = rule.reach; tests = 0; looks = 0; bound = bound } in
    ap with_bound (one_bound rule.library.now rule.reach _ rule.bound)
