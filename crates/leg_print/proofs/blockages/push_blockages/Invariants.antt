use Rattle.std.proofs.Common.{◌≡◌, ◌++◌, take}
use Rattle.std.specs.List.{flat_map}
use Rattle.leg_output.specs.Words.{line}
use Rattle.leg_design_records.specs.Records.{blockage_said}
use Rattle.leg_output.specs.Text.Blockages.{blockage_words}
use Rattle.leg_print.proofs.blockages.push_blockages.Given as goal

abbrev pub invariant-loop-blockage : goal.invariant-loop-blockage
invariant-loop-blockage g l =
    l.text.items ≡ l.initial.text.items ++ flat_map (λ blockage. line (blockage_words l.design (blockage_said blockage))) (take l.blockage-index l.blockages)
