use Rattle.std.proofs.Common.{◌≡◌, ◌++◌, take}
use Rattle.std.specs.List.{flat_map}
use Rattle.leg_output.specs.Words.{spaced}
use Rattle.leg_output.specs.Text.Nets.{terminal_words}
use Rattle.leg_print.proofs.nets.push_terminals.Given as goal

abbrev pub invariant-loop-terminal : goal.invariant-loop-terminal
invariant-loop-terminal g l = l.text.items ≡ l.fn.text.items ++ spaced (flat_map (terminal_words l.design) (take l.terminal-index l.terminals))
