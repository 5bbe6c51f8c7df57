use Rattle.std.proofs.Common.{◌≡◌, ◌-◌}
use Rattle.leg_lex.specs.Until.{over}
use Rattle.leg_grammar.specs.Def.CutArray.{numbers_from, with_cut}
use Rattle.leg_generated_via.proofs.cut_array.push_row.Given as goal

abbrev pub invariant-loop-column : goal.invariant-loop-column
invariant-loop-column g l =
    over (with_cut l.placed l.row) l.shapes (numbers_from l.column (l.placed.cuts.columns - l.column))
    ≡ over (with_cut l.placed l.row) l.initial.shapes (numbers_from 0 l.placed.cuts.columns)
