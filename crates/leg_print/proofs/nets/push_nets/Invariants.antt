use Rattle.std.proofs.Common.{◌≡◌, ◌++◌, take}
use Rattle.std.specs.List.{flat_map}
use Rattle.leg_output.specs.Text.Nets.{net_text}
use Rattle.leg_print.proofs.nets.push_nets.Given as goal

abbrev pub invariant-loop-net : goal.invariant-loop-net
invariant-loop-net g l = l.text.items ≡ l.initial.text.items ++ flat_map (net_text l.design l.special) (take l.net-index l.nets)
