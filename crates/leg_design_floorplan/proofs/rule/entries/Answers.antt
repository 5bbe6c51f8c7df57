use Rattle.leg_design_floorplan.proofs.Rules.{rule_shorter}
use Rattle.leg_design_floorplan.proofs.rule.entries.Goals as goal

pub entries-smaller : goal.entries-smaller
entries-smaller g c =
    rule_shorter c.args.library.now c.entries.rules c.entry.new.rules c.entries.words c.entry.new.words c.in_ok-entry.ensures
