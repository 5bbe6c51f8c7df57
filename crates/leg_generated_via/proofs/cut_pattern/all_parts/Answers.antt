use Rattle.std.proofs.Common.{◌<◌, ◌≤◌, ◌∙◌, length, rules, sym, arith}
use Rattle.std.proofs.lemmas.Bool.Decides.{nat_tests}
use Rattle.std.proofs.lemmas.Result.{err_from_is_err_and}
use Rattle.leg_grammar.specs.Def.CutPattern.{one_part}
use Rattle.leg_generated_via.proofs.CutPatterns.{part_goes_on, part_fails, parts_end}
use Rattle.leg_generated_via.proofs.cut_pattern.all_parts.Goals as goal

pub returns-in_err-one_part : goal.returns-in_err-one_part
returns-in_err-one_part g c =
    let less : c.loop-part.part-index < length c.args.parts.now = first_of (omega arith, search rules, grind (arith, nat_tests)) in
    let p = err_from_is_err_and c.from_residual.result c.from_residual.ensures.1 in
    rw (p.1, p.2) (λ not_memory. sym c.loop-part.invariant
    ∙ part_fails one_part c.loop-part.made c.args.parts.now c.loop-part.part-index _ less (c.in_err-one_part.ensures not_memory))

pub loop-part-preserved : goal.loop-part-preserved
loop-part-preserved g c =
    let less : c.loop-part.part-index < length c.args.parts.now = first_of (omega arith, search rules, grind (arith, nat_tests)) in
    sym (part_goes_on one_part c.loop-part.made c.one_part.new.made c.args.parts.now c.loop-part.part-index _ less c.in_ok-one_part.ensures)
    ∙ c.loop-part.invariant

pub returns : goal.returns
returns g c =
    let past : length c.args.parts.now ≤ c.loop-part.part-index = first_of (omega arith, search rules, grind (arith, nat_tests)) in
    sym c.loop-part.invariant ∙ parts_end one_part c.loop-part.made c.args.parts.now c.loop-part.part-index past
