use Rattle.std.proofs.Common.{◌≡◌, ◌-◌}
use Rattle.leg_lex.specs.Until.{over}
use Rattle.leg_grammar.specs.Def.CutArray.{numbers_from, with_row}
use Rattle.leg_generated_via.proofs.cut_array.push_rows.Given as goal

abbrev pub invariant-loop-row : goal.invariant-loop-row
invariant-loop-row g l =
    over (with_row l.placed) l.shapes (numbers_from l.row (l.placed.cuts.rows - l.row))
    ≡ over (with_row l.placed) l.initial.shapes (numbers_from 0 l.placed.cuts.rows)
