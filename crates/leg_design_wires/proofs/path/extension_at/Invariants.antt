use Rattle.std.proofs.Common.{◌≡◌, drop}
use Rattle.leg_grammar.specs.Def.Path.{extension_at}
use Rattle.leg_design_wires.proofs.path.extension_at.Given as goal

abbrev pub invariant-loop-next : goal.invariant-loop-next
invariant-loop-next l = extension_at l.at l.extension (drop l.next-index l.items) ≡ extension_at l.at l.fn.given l.items
