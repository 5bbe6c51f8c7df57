use Rattle.std.proofs.Common.{w64}
use Rattle.std.proofs.lemmas.Int.{to_z-of_z}
use Rattle.leg_flat.proofs.Outlines.{StaysWithin-drawn}
use Rattle.leg_flat.proofs.outline.drawn_rect.Goals as goal

pub rect-requires : goal.rect-requires
rect-requires c =
    let place = c.args.place.now in
    rw (to_z-of_z w64 c.args.width c.ranges.width, to_z-of_z w64 c.args.height c.ranges.height)
    (StaysWithin-drawn place.orient place.at _ _ _ c.requires.at c.requires.width c.requires.height c.requires.rect)

pub returns-clause-points : goal.returns-clause-points
returns-clause-points c =
    rw (to_z-of_z w64 c.args.width c.ranges.width, to_z-of_z w64 c.args.height c.ranges.height) at c.rect.ensures.image
