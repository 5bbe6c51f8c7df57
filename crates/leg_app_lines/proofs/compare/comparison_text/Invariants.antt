use Rattle.std.proofs.Common.{◌≡◌, take}
use Rattle.std.specs.List.{flat_map}
use Rattle.leg_output.specs.Commands.Compare.{difference_line}
use Rattle.leg_app_lines.proofs.compare.comparison_text.Given as goal

-- a line for each difference so far
abbrev pub invariant-loop-difference : goal.invariant-loop-difference
invariant-loop-difference g l = l.text.items ≡ flat_map (difference_line l.first l.second) (take l.difference-index l.list)
