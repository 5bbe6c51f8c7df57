use Rattle.std.proofs.Common.{◌≡◌, Some, sym, ◌∙◌, w64, SFits, rules}
use Rattle.std.proofs.lemmas.Int.{to_z-of_z}
use Rattle.leg_grammar.specs.Lef.Copies.{StepPattern, length_within, with_row}
use Rattle.leg_lib.proofs.CopiedShapes.{rows_on}
use Rattle.leg_lib.proofs.copies.push_rows.Goals as goal

pub loop-k-preserved : goal.loop-k-preserved
loop-k-preserved g c =
    let figure = c.args.figure.now in
    let inside = c.pattern.inside in
    let pattern : StepPattern = record { columns = inside.columns; rows = inside.rows; x_step = inside.x_step; y_step = inside.y_step } in
    let y = c.loop-k.y in
    let within : length_within y ≡ Some c.in-Some.north = rw c.loop-k.y-is at (sym c.length_within.ensures ∙ c.in-Some.is) in
    let row : with_row figure c.args.pattern.now.x_step c.args.pattern.now.columns (record { x = c.args.way.now.x; y = c.in-Some.north })
    c.loop-k.shapes.items ≡ Some c.push_row.new.shapes.items =
    rw (c.new.ensures, c.x.ensures) at c.in_ok-push_row.ensures in
    let copied : with_row figure inside.x_step inside.columns (record { x = c.args.way.now.x; y = c.in-Some.north }) c.loop-k.shapes.items ≡ Some
    c.push_row.new.shapes.items =
    rw (← c.pattern.view_is) at row in
    let fits : SFits w64 c.together-y.result = search rules in
    rw (← c.pattern.view_is) (rw (to_z-of_z w64 c.together-y.result fits, c.together-y.ensures) (sym (rows_on figure pattern inside.rows c.loop-k.k
    (record { x = c.args.way.now.x; y = y }) c.loop-k.shapes.items c.in-Some.north c.push_row.new.shapes.items c.loop-k-test.true within copied)
    ∙ (rw (← c.pattern.view_is, c.loop-k.y-is) at c.loop-k.invariant)))
