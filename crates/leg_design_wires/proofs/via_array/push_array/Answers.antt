use Rattle.std.proofs.Common.{rules, ◌≡◌, true, sym, ◌∙◌}
use Rattle.std.proofs.lemmas.Result.{err_from_is_err_and}
use Rattle.leg_grammar.specs.Def.Guard.{is_within}
use Rattle.leg_design_wires.proofs.ViaArrays.{rows_on, rows_fail_in_row}
use Rattle.leg_design_wires.proofs.via_array.push_array.Goals as goal

pub returns-in_err-push_row : goal.returns-in_err-push_row
returns-in_err-push_row g c =
    let array = c.args.array.now in
    let within : is_within c.loop-k.at.y ≡ true = search rules in
    let p = err_from_is_err_and c.from_residual.result c.from_residual.ensures.1 in
    rw (p.1, p.2) (λ not_memory. sym c.loop-k.invariant
    ∙ rows_fail_in_row c.args.via array array.rows c.loop-k.k c.loop-k.at c.loop-k.wires.items c.loop-k-test.true within (c.in_err-push_row.ensures not_memory))

pub loop-k-preserved : goal.loop-k-preserved
loop-k-preserved g c =
    let array = c.args.array.now in
    let within : is_within c.loop-k.at.y ≡ true = search rules in
    rw (c.above-at.ensures)
    (sym (rows_on c.args.via array array.rows c.loop-k.k c.loop-k.at c.loop-k.wires.items c.push_row.new.wires.items c.loop-k-test.true within
    c.in_ok-push_row.ensures) ∙ c.loop-k.invariant)
