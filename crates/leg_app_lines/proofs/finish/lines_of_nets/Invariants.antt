use Rattle.std.proofs.Common.{◌≡◌, take}
use Rattle.std.specs.List.{flat_map}
use Rattle.leg_output.specs.Commands.Finish.{unfinished_line}
use Rattle.leg_app_lines.proofs.finish.lines_of_nets.Given as goal

-- a line for each net so far
abbrev pub invariant-loop-net : goal.invariant-loop-net
invariant-loop-net g l = l.text.items ≡ flat_map (unfinished_line l.design) (take l.net-index l.nets)
