use Rattle.leg_lex.proofs.InBits.{number_kept}
use Rattle.leg_design_common.proofs.Numbers.{whole_is_number}
use Rattle.leg_design_floorplan.proofs.row.sites.Goals as goal

pub returns-clause-number : goal.returns-clause-number
returns-clause-number c =
    let number = whole_is_number c.keyword.new.self c.in_ok-count.count c.whole.new.self c.in_ok-count.ensures.reads in
    rw (number_kept c.in_ok-count.count number) number
