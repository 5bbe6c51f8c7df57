use Rattle.std.proofs.Common.{take}
use Rattle.leg_lib_records.specs.Scale.{IsRuleAt, OneForOne}
use Rattle.leg_lib_records.proofs.scale_rules.rules_at.Given as goal

abbrev pub invariant-loop-rule : goal.invariant-loop-rule
invariant-loop-rule g l = OneForOne (IsRuleAt l.n) (take l.rule-index l.rule-items) l.rules.items
