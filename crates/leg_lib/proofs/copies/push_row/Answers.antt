use Rattle.std.proofs.Common.{◌≡◌, Some, sym, ◌∙◌, w64, SFits, rules}
use Rattle.std.proofs.lemmas.Int.{to_z-of_z}
use Rattle.leg_lex.specs.Until.{over}
use Rattle.leg_grammar.specs.Lef.Copies.{length_within, with_moved}
use Rattle.leg_lib.proofs.CopiedShapes.{row_on}
use Rattle.leg_lib.proofs.copies.push_row.Goals as goal

pub loop-k-preserved : goal.loop-k-preserved
loop-k-preserved g c =
    let figure = c.args.figure.now in
    let x = c.loop-k.x in
    let y = c.args.way.now.y in
    let within : length_within x ≡ Some c.in-Some.east = rw c.loop-k.x-is at (sym c.length_within.ensures ∙ c.in-Some.is) in
    let copied : over (with_moved (record { x = c.in-Some.east; y = y })) c.loop-k.shapes.items figure ≡ Some c.push_copy.new.shapes.items =
    rw (c.new.ensures, c.y.ensures) at c.in_ok-push_copy.ensures in
    let fits : SFits w64 c.together-x.result = search rules in
    rw (← c.pattern.view_is) (rw (to_z-of_z w64 c.together-x.result fits, c.together-x.ensures) (sym (row_on figure c.pattern.inside.x_step
    c.pattern.inside.columns c.loop-k.k (record { x = x; y = y })
    c.loop-k.shapes.items c.in-Some.east c.push_copy.new.shapes.items c.loop-k-test.true within copied) ∙ (rw (← c.pattern.view_is, c.loop-k.x-is) at
    c.loop-k.invariant)))
