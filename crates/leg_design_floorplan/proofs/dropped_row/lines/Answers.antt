use Rattle.leg_lex.proofs.InBits.{number_kept}
use Rattle.leg_design_common.proofs.Numbers.{whole_is_number}
use Rattle.leg_design_floorplan.proofs.dropped_row.lines.Goals as goal

pub returns-clause-number : goal.returns-clause-number
returns-clause-number c =
    let number = whole_is_number c.keyword-2.new.self c.in_ok-line_count.line_count c.whole-2.new.self c.in_ok-line_count.ensures.reads in
    rw (number_kept c.in_ok-line_count.line_count number) number
