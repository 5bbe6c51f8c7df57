use Rattle.std.proofs.Common.{◌≡◌, ℤ, pos}
use Rattle.leg_geom.specs.Gap.{x_gap}
use Rattle.leg_geom.proofs.Coordinates.{coordinate_kept}
use Rattle.leg_sweep.specs.Steps.Cut.{cut_at}
use Rattle.leg_sweep.proofs.Cuts.{sides_made, sides_are, cut_proper, edge_told}
use Rattle.leg_sweep.proofs.cut.cut_rect.Goals as goal

pub unwrap-requires : goal.unwrap-requires
unwrap-requires g c =
    let rule = g.R.PairRule in
    let rect = rule.rect_of (rule.fixed c.args.rule.now) c.args.item.now in
    let other = rule.rect_of (rule.fixed c.args.rule.now) c.args.rightmost.now in
    let line : ℤ = other.x1 in
    let x1 = rw c.gaps-gap.ensures.same at c.left-left.ensures.is in
    let y1 = rw c.gaps-gap.ensures.same at c.bottom.ensures.is in
    let y2 = rw c.gaps-gap.ensures.same at c.top.ensures.is in
    let is = rw c.gaps-gap.ensures.same at c.left-left.ensures.proper in
    let other_is = rw c.gaps-gap.ensures.same at c.left.ensures.proper in
    let cut_is = cut_proper line rect is c.requires.right other_is.x1 in
    let x2 : c.max-right.result ≡ (cut_at line rect).x2 =
    let gap : c.gaps-gap.result.0 ≡ pos (x_gap rect other) = c.gaps-gap.ensures.x in
    let edge = rw c.gaps-gap.ensures.same at c.left.ensures.is in
    edge_told c.max-right.result c.left-left.result c.left.result c.gaps-gap.result.0 rect other
    (record { left_is = x1; edge_is = edge; gap_is = gap; proper = is; other_proper = other_is; order = c.requires.right }) c.max-right.ensures.value in
    sides_made c.new.result _ _ _ _ (cut_at line rect) (coordinate_kept _ rect.x1 x1 is.x1) (coordinate_kept _ rect.y1 y1 is.y1)
    (coordinate_kept _ _ x2 cut_is.x2)
    (coordinate_kept _ rect.y2 y2 is.y2) cut_is c.new.ensures

pub returns-clause-cut : goal.returns-clause-cut
returns-clause-cut g c =
    let rule = g.R.PairRule in
    let rect = rule.rect_of (rule.fixed c.args.rule.now) c.args.item.now in
    let other = rule.rect_of (rule.fixed c.args.rule.now) c.args.rightmost.now in
    let line : ℤ = other.x1 in
    let x1 = rw c.gaps-gap.ensures.same at c.left-left.ensures.is in
    let y1 = rw c.gaps-gap.ensures.same at c.bottom.ensures.is in
    let y2 = rw c.gaps-gap.ensures.same at c.top.ensures.is in
    let is = rw c.gaps-gap.ensures.same at c.left-left.ensures.proper in
    let other_is = rw c.gaps-gap.ensures.same at c.left.ensures.proper in
    let cut_is = cut_proper line rect is c.requires.right other_is.x1 in
    let x2 : c.max-right.result ≡ (cut_at line rect).x2 =
    let gap : c.gaps-gap.result.0 ≡ pos (x_gap rect other) = c.gaps-gap.ensures.x in
    let edge = rw c.gaps-gap.ensures.same at c.left.ensures.is in
    edge_told c.max-right.result c.left-left.result c.left.result c.gaps-gap.result.0 rect other
    (record { left_is = x1; edge_is = edge; gap_is = gap; proper = is; other_proper = other_is; order = c.requires.right }) c.max-right.ensures.value in
    sides_are c.new.result _ _ _ _ (cut_at line rect) c.unwrap.result (coordinate_kept _ rect.x1 x1 is.x1) (coordinate_kept _ rect.y1 y1 is.y1)
    (coordinate_kept _ _ x2 cut_is.x2)
    (coordinate_kept _ rect.y2 y2 is.y2) c.new.ensures c.unwrap.ensures
