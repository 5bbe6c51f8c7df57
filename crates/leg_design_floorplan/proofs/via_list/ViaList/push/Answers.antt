use Rattle.std.proofs.Common.{◌+◌, length, min, ap, ◌∙◌}
use Rattle.leg_lib_records.specs.Records.{ViaModel}
use Rattle.leg_design_floorplan.proofs.ShapeCounts.{more_shapes}
use Rattle.leg_design_floorplan.proofs.via_list.ViaList.push.Goals as goal

pub invariant_of-self-2 : goal.invariant_of-self-2
invariant_of-self-2 g c =
    let counted = c.saturating_add-self-inside.ensures
    ∙ ap (λ shapes. min (c.self.inside.shapes + length shapes) 18446744073709551615) c.as_slice-shapes.ensures
    ∙ ap (λ (via : ViaModel). min (c.self.inside.shapes + length via.shapes) 18446744073709551615) c.via.view_is in
    more_shapes c.self.inside.vias c.push.new.self c.args.via c.self.inside.shapes c.saturating_add-self-inside.result 18446744073709551615
    c.in_ok-push.ensures.pushed c.self.invariant counted
