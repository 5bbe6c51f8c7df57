use Rattle.std.proofs.Common.{ℕ, All, take}
use Rattle.leg_lib_records.specs.declared.records.Shape.{Shape}
use Rattle.leg_design_records.specs.declared.records.Wire.TheVariants.{Patch}
use Rattle.leg_wire_spacing.specs.Access.{alone}
use Rattle.leg_rules.specs.Route.OpenMetal.{IsOpenWire}
use Rattle.leg_route_access.specs.Steps.AccessTable.{AdmitsJust}
use Rattle.leg_route_access.proofs.via_patches.patches_beside.Given as goal

abbrev pub invariant-loop-patch : goal.invariant-loop-patch
invariant-loop-patch g l =
    AdmitsJust l.access (λ (net : ℕ). All (λ (patch : Shape). IsOpenWire l.design (alone l.shape) net (Patch patch.layer l.at patch.rect))
    (take l.patch-index l.patches))
