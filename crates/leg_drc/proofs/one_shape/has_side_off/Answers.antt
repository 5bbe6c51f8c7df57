-- A side is off the grid where not all four are on it.
use Rattle.std.proofs.Common.{◌↔◌, IsTrue, FitsSigned, w64, arith, rules}
use Rattle.std.proofs.lemmas.Int.{to_z-of_z}
use Rattle.leg_drc.specs.OneShape.{IsMultiple}
use Rattle.leg_drc.proofs.GridMultiples.{sides_told}
use Rattle.leg_drc.proofs.one_shape.has_side_off.Goals as goal
use Rattle.leg_drc.proofs.one_shape.has_side_off.Goals.{then-right, else-right}

pub returns : goal.returns
returns c =
    let units = c.args.units in
    let grid = c.args.grid in
    let rect = c.args.rect.now in
    let a = c.is_multiple-left.result in
    let b = c.is_multiple-bottom.result in
    let d = c.is_multiple-right.result in
    let e = c.is_multiple-top.result in
    let fits_x1 : FitsSigned w64 c.x1.result = search rules in
    let fits_y1 : FitsSigned w64 c.y1.result = search rules in
    let fits_x2 : FitsSigned w64 c.x2.result = search rules in
    let fits_y2 : FitsSigned w64 c.y2.result = search rules in
    let fits_grid : FitsSigned w64 grid = search rules in
    let left : IsTrue a ↔ IsMultiple units grid rect.x1 = rw (← c.x1.ensures.is) (simp to_z-of_z at c.is_multiple-left.ensures) in
    let bottom : IsTrue b ↔ IsMultiple units grid rect.y1 = rw (← c.y1.ensures.is) (simp to_z-of_z at c.is_multiple-bottom.ensures) in
    let right : IsTrue d ↔ IsMultiple units grid rect.x2 = rw (← c.x2.ensures.is) (simp to_z-of_z at c.is_multiple-right.ensures) in
    let top : IsTrue e ↔ IsMultiple units grid rect.y2 = rw (← c.y2.ensures.is) (simp to_z-of_z at c.is_multiple-top.ensures) in
    sides_told units grid rect a b d e left bottom right top c.if-right.result
    (elim c.if-right.branch [ then-right w ↦ grind arith | else-right w ↦ grind arith ])
