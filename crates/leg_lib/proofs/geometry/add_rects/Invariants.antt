use Rattle.std.proofs.Common.{◌≡◌, ◌++◌, take}
use Rattle.leg_grammar.specs.Lef.Geometry.{shapes_on}
use Rattle.leg_lib.proofs.geometry.add_rects.Given as goal

abbrev pub invariant-rects : goal.invariant-rects
invariant-rects g l = l.shapes.items ≡ l.initial.shapes.items ++ shapes_on l.layer (take l.rect-index l.rects)
