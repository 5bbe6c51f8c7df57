use Rattle.std.proofs.Common.{◌≡◌, ◌++◌}
use Rattle.std.specs.Iterator.Adapters.{zip_first, zip_second}
use Rattle.std.specs.Slice.Iter.{iter_rest}
use Rattle.leg_output.specs.Text.Whole.{design_text}
use Rattle.leg_output.specs.Commands.Legalise.{move_lines}
use Rattle.leg_app_lines.proofs.legalise.legalised_text.Given as goal

-- with the lines of the components that are left, the text has a line for each
abbrev pub invariant-loop-component : goal.invariant-loop-component
invariant-loop-component g l =
    l.text.items ++ move_lines (iter_rest (zip_first l.component-iterator)) (iter_rest (zip_second l.component-iterator))
    ≡ design_text l.design ++ move_lines l.design.components l.moves.per_component
