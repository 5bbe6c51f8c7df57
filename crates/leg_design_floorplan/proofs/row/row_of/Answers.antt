use Rattle.leg_lex.proofs.InBits.{number_kept}
use Rattle.leg_design_common.proofs.Numbers.{whole_is_number}
use Rattle.leg_design_floorplan.proofs.row.row_of.Goals as goal

pub ends_within-requires-clause-start : goal.ends_within-requires-clause-start
ends_within-requires-clause-start g c =
    let number = whole_is_number c.site.new.words c.in_ok-x.x c.whole.new.self c.in_ok-x.ensures.reads in
    rw (number_kept c.in_ok-x.x number) number

pub ends_within-requires-clause-steps : goal.ends_within-requires-clause-steps
ends_within-requires-clause-steps g c = rw (number_kept c.in_ok-count.count c.in_ok-count.ensures.number) c.in_ok-count.ensures.number
