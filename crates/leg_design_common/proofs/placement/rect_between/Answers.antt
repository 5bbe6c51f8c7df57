use Rattle.std.proofs.Common.{◌≡◌, to_z, of_z, w64, arith}
use Rattle.std.proofs.lemmas.Int.{to_z-of_z}
use Rattle.std.specs.Int.{int_min, int_max}
use Rattle.leg_design_common.proofs.Corners.{rect_made}
use Rattle.leg_design_common.proofs.placement.rect_between.Goals as goal

pub returns : goal.returns
returns c =
    let p = c.args.p.now in
    let q = c.args.q.now in
    let x1 : to_z w64 (of_z w64 c.min.result) ≡ int_min p.x q.x = grind (arith, to_z-of_z) in
    let y1 : to_z w64 (of_z w64 c.min-2.result) ≡ int_min p.y q.y = grind (arith, to_z-of_z) in
    let x2 : to_z w64 (of_z w64 c.max.result) ≡ int_max p.x q.x = grind (arith, to_z-of_z) in
    let y2 : to_z w64 (of_z w64 c.max-2.result) ≡ int_max p.y q.y = grind (arith, to_z-of_z) in
    rect_made p q _ c.new.result c.x.ensures.within c.x-2.ensures.within (cc) c.new.ensures
