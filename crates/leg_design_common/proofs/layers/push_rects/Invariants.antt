use Rattle.std.proofs.Common.{◌≡◌, take}
use Rattle.leg_grammar.specs.Def.Layers.{with_rects}
use Rattle.leg_design_common.proofs.layers.push_rects.Given as goal

abbrev pub invariant-loop-rect : goal.invariant-loop-rect
invariant-loop-rect g l = l.shapes ≡ with_rects l.library l.fn.layer (take l.rect-index l.rects) l.initial.shapes
