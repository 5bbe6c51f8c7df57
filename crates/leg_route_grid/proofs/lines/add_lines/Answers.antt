use Rattle.std.proofs.Common.{FitsSigned, w64, rules, refl, ◌∙◌, arith}
use Rattle.std.proofs.lemmas.Int.{to_z-of_z}
use Rattle.leg_route_grid.proofs.TrackLines.{no_lines, one_line_more, all_lines}
use Rattle.leg_route_grid.proofs.lines.add_lines.Goals as goal

pub loop-k-init : goal.loop-k-init
loop-k-init g c = no_lines _ _

pub loop-k-preserved : goal.loop-k-preserved
loop-k-preserved g c =
    let fits : FitsSigned w64 c.line.result = search rules in
    one_line_more _ _ _ _ _ c.loop-k.invariant (simp to_z-of_z at c.in_ok-push.ensures.items ∙ rw c.line.ensures refl)

pub returns : goal.returns
returns g c = all_lines _ _ _ _ c.requires (omega arith) c.loop-k.invariant
