-- The metal of a design, part by part.
use Rattle.std.proofs.Common.{List, []}
use Rattle.leg_lib_records.specs.Scale.{OneForOne}
use Rattle.leg_design_records.specs.Records.{DesignModel}
use Rattle.leg_rules.specs.declared.shape.Shape.{Shape}
use Rattle.leg_rules.specs.Metal.Metal.{metal_parts, metal_of}
use Rattle.leg_rules.specs.Metal.Flat.{IsShapeOf}
use Rattle.leg_flat.specs.Steps.AddedMetal.{AddsMetal}
use Rattle.leg_flat.proofs.MoreMetal.{adds_none, adds_both}
use Rattle.leg_flat.proofs.Parts.{AreSteps, step_on}

-- what the parts add, one after another from no shapes on, is the metal
pub metal_from_parts : (design : DesignModel) (shapes : List Shape) → AreSteps AddsMetal (metal_parts design) [] shapes
    → OneForOne IsShapeOf (metal_of design) shapes
unfolding metal_of
metal_from_parts design shapes steps =
    let all = step_on AddsMetal adds_both (metal_parts design) [] [] [] shapes (adds_none []) steps in
    rw all.is all.each
