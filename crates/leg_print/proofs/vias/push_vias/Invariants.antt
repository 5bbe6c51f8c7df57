use Rattle.std.proofs.Common.{◌≡◌, ◌++◌, take}
use Rattle.std.specs.List.{flat_map}
use Rattle.leg_output.specs.Words.{line}
use Rattle.leg_output.specs.Text.Vias.{via_words}
use Rattle.leg_print.proofs.vias.push_vias.Given as goal

abbrev pub invariant-loop-via : goal.invariant-loop-via
invariant-loop-via g l = l.text.items ≡ l.initial.text.items ++ flat_map (λ via. line (via_words l.design via)) (take l.via-index l.vias)
