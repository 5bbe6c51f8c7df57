use Rattle.std.proofs.Common.{◌+◌, length, min, ap, ◌∙◌}
use Rattle.leg_lib_records.specs.Records.{ViaModel}
use Rattle.leg_design_floorplan.proofs.ShapeCounts.{one_via_more}
use Rattle.leg_design_floorplan.proofs.via_list.shape_count.Goals as goal

pub loop-via-preserved : goal.loop-via-preserved
loop-via-preserved g c =
    let counted = c.saturating_add-count.ensures
    ∙ ap (λ shapes. min (c.loop-via.count + length shapes) 18446744073709551615) c.as_slice.ensures
    ∙ ap (λ (via : ViaModel). min (c.loop-via.count + length via.shapes) 18446744073709551615) c.via.view_is in
    one_via_more c.args.vias.now c.via-item.result c.loop-via.via-index c.loop-via.count c.saturating_add-count.result 18446744073709551615
    c.loop-via-test.true c.via-item.is c.loop-via.invariant counted
