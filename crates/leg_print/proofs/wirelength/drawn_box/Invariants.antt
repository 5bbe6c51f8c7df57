use Rattle.std.proofs.Common.{take}
use Rattle.leg_lib_records.specs.declared.records.Shape.{Shape}
use Rattle.leg_rules.specs.Wirelength.{IsLeastBoxIfAny}
use Rattle.leg_print.specs.Steps.Wirelength.{IsOfSome, IsOfShape}
use Rattle.leg_print.proofs.wirelength.drawn_box.Given as goal

abbrev pub invariant-loop-shape : goal.invariant-loop-shape
invariant-loop-shape l =
    IsLeastBoxIfAny (IsOfSome Shape (IsOfShape l.place (record { width = l.width; height = l.height })) (take l.shape-index l.shapes)) l.bounds
