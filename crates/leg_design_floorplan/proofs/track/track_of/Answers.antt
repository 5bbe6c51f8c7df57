use Rattle.std.proofs.Common.{refl}
use Rattle.leg_lex.proofs.InBits.{number_fits, number_kept}
use Rattle.leg_grammar.specs.Def.Track.{track_in}
use Rattle.leg_design_common.proofs.Numbers.{whole_is_number, one_less, below_one}
use Rattle.leg_design_floorplan.proofs.track.track_of.Goals as goal

pub returns-then-count-lt1 : goal.returns-then-count-lt1
unfolding track_in
returns-then-count-lt1 g c =
    let number = whole_is_number c.keyword-2.new.self c.in_ok-count.count c.whole-2.new.self c.in_ok-count.ensures.reads in
    let none = below_one c.in_ok-count.count (rw (number_kept c.in_ok-count.count number) at c.if-count-lt1.true) in
    rw (c.in_ok-keyword.ensures.reads, c.in_ok-axis.ensures, c.in_ok-start.ensures.reads, c.in_ok-keyword-2.ensures.reads, c.in_ok-count.ensures.reads, none)
    (λ not_memory. refl)

pub ends_within-requires-clause-start : goal.ends_within-requires-clause-start
ends_within-requires-clause-start g c =
    let number = whole_is_number c.axis.new.words c.in_ok-start.start c.whole.new.self c.in_ok-start.ensures.reads in
    rw (number_kept c.in_ok-start.start number) number

pub ends_within-requires-clause-steps : goal.ends_within-requires-clause-steps
ends_within-requires-clause-steps g c =
    let number = whole_is_number c.keyword-2.new.self c.in_ok-count.count c.whole-2.new.self c.in_ok-count.ensures.reads in
    let kept = number_kept c.in_ok-count.count number in
    let less = one_less c.in_ok-count.count number (rw kept at c.if-count-lt1.false) in
    rw (kept, number_kept _ less) less

pub ends_within-requires-clause-step : goal.ends_within-requires-clause-step
ends_within-requires-clause-step g c =
    let number = whole_is_number c.keyword-3.new.self c.in_ok-step.step c.whole-3.new.self c.in_ok-step.ensures.reads in
    rw (number_kept c.in_ok-step.step number) number

pub overflow_sub-count : goal.overflow_sub-count
overflow_sub-count g c =
    let number = whole_is_number c.keyword-2.new.self c.in_ok-count.count c.whole-2.new.self c.in_ok-count.ensures.reads in
    let kept = number_kept c.in_ok-count.count number in
    rw kept (number_fits _ (one_less c.in_ok-count.count number (rw kept at c.if-count-lt1.false)))
