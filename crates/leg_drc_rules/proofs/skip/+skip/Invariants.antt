use Rattle.leg_drc_rules.proofs.skip.+skip.Given as goal

abbrev pub decreases-skip : goal.decreases-skip
decreases-skip l = l.count
