use Rattle.std.proofs.Common.{◌≡◌, ◌++◌, take}
use Rattle.std.specs.List.{flat_map}
use Rattle.leg_output.specs.Words.{spaced}
use Rattle.leg_output.specs.Text.Clauses.{clause_words}
use Rattle.leg_output.specs.Text.Pins.{port_clauses}
use Rattle.leg_print.proofs.pins.push_ports.Given as goal

abbrev pub invariant-loop-port : goal.invariant-loop-port
invariant-loop-port g l = l.text.items ≡ l.fn.text.items ++ spaced (clause_words (flat_map (port_clauses l.design) (take l.port-index l.ports)))
