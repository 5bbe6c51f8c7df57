use Rattle.std.proofs.Common.{◌≡◌, FitsSigned, w64, rules}
use Rattle.std.specs.Int.{int_max}
use Rattle.std.proofs.lemmas.Int.{to_z-of_z}
use Rattle.leg_wire.proofs.SinglePoints.{corner_only}
use Rattle.leg_wire.proofs.corner.corner_of.Goals as goal

pub returns : goal.returns
returns c =
    let fits_x : FitsSigned w64 c.max.result = search rules in
    let fits_y : FitsSigned w64 c.max-2.result = search rules in
    let fits_x1 : FitsSigned w64 c.x1.result = search rules in
    let fits_x2 : FitsSigned w64 c.x1-2.result = search rules in
    let fits_y1 : FitsSigned w64 c.y1.result = search rules in
    let fits_y2 : FitsSigned w64 c.y1-2.result = search rules in
    let x : c.max.result ≡ int_max c.args.a.now.rect.x1 c.args.b.now.rect.x1 =
    rw (← c.x1.ensures.is, ← c.x1-2.ensures.is) (simp to_z-of_z at c.max.ensures.value) in
    let y : c.max-2.result ≡ int_max c.args.a.now.rect.y1 c.args.b.now.rect.y1 =
    rw (← c.y1.ensures.is, ← c.y1-2.ensures.is) (simp to_z-of_z at c.max-2.ensures.value) in
    simp to_z-of_z (corner_only c.args.a.now.rect c.args.b.now.rect c.max.result c.max-2.result x y c.requires.meet c.requires.single)
