use Rattle.std.proofs.Common.{◌≡◌, ◌++◌, take}
use Rattle.std.specs.List.{flat_map}
use Rattle.leg_output.specs.Words.{spaced}
use Rattle.leg_output.specs.Text.Blockages.{rect_words}
use Rattle.leg_print.proofs.blockages.push_rects.Given as goal

abbrev pub invariant-loop-rect : goal.invariant-loop-rect
invariant-loop-rect g l = l.text.items ≡ l.fn.text.items ++ spaced (flat_map rect_words (take l.rect-index l.rects))
