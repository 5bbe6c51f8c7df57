use Rattle.std.proofs.Common.{◌≡◌, min, take}
use Rattle.leg_grammar.specs.Def.CutArray.{shape_count}
use Rattle.leg_design_floorplan.proofs.via_list.shape_count.Given as goal

abbrev pub invariant-loop-via : goal.invariant-loop-via
invariant-loop-via g l = l.count ≡ min (shape_count (take l.via-index l.vias)) 18446744073709551615
