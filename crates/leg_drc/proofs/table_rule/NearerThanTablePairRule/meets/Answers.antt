-- But for its counts the rule stays as it was.
use Rattle.std.proofs.Common.{ap}
use Rattle.leg_drc.specs.declared.table_rule.NearerThanTable.{NearerThanTable}
use Rattle.leg_drc.specs.Steps.TableRule.{AreTableReaches}
use Rattle.leg_drc.proofs.TableBound.{one_bound}
use Rattle.leg_drc.proofs.table_rule.NearerThanTablePairRule.meets.Goals as goal

pub returns-clause-same : goal.returns-clause-same
returns-clause-same g c =
    let rule = c.args.self.now in
    let with_bound : AreTableReaches rule.deck.now rule.reaches.now → NearerThanTable g.row.A.Denot =
    λ bound. record { library = rule.library; deck = rule.deck; reaches = rule.reaches; tests = 0; looks = 0; bound = bound } in
    ap with_bound (one_bound rule.deck.now rule.reaches.now _ rule.bound)
