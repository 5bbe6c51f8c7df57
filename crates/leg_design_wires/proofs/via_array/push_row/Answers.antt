use Rattle.std.proofs.Common.{rules, ◌≡◌, true, sym, ◌∙◌}
use Rattle.leg_grammar.specs.Def.Guard.{is_within}
use Rattle.leg_design_wires.proofs.ViaArrays.{row_on}
use Rattle.leg_design_wires.proofs.via_array.push_row.Goals as goal

pub loop-k-preserved : goal.loop-k-preserved
loop-k-preserved g c =
    let array = c.args.array.now in
    let within : is_within c.loop-k.at.x ≡ true = search rules in
    rw (c.in_ok-push.ensures.items, c.beside-at.ensures)
    (sym (row_on c.args.via array.x_step array.columns c.loop-k.k c.loop-k.at c.loop-k.wires.items c.loop-k-test.true within) ∙ c.loop-k.invariant)
