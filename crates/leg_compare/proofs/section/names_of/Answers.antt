use Rattle.std.proofs.Common.{rules}
use Rattle.leg_rules.specs.Compare.Sections.{names_of}
use Rattle.leg_compare.proofs.EntryNames.{next_is_new, one_more_name}
use Rattle.leg_compare.proofs.section.names_of.Goals as goal

pub push-requires : goal.push-requires
push-requires g c =
    next_is_new (names_of c.args.section c.args.design.now) c.loop-number.names c.loop-number.number c.name_at.result.now c.count_of-number-end.ensures.apart
    (search rules) c.loop-number.invariant c.name_at.ensures

pub loop-number-preserved : goal.loop-number-preserved
loop-number-preserved g c =
    one_more_name (names_of c.args.section c.args.design.now) c.loop-number.names _ c.loop-number.number c.name_at.result.now
    (search rules) c.loop-number.invariant c.name_at.ensures c.in_ok-push.ensures.pushed
