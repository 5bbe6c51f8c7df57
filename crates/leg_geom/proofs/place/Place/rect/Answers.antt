use Rattle.std.proofs.Common.{◌≡◌, w64}
use Rattle.std.proofs.lemmas.Int.{to_z-of_z}
use Rattle.leg_geom.specs.Orientation.{placed_rect}
use Rattle.leg_geom.proofs.Corners.{HasPoint-lower_left, HasPoint-upper_right}
use Rattle.leg_geom.proofs.Images.{IsImage-placed_rect, placed_rect-corners}
use Rattle.leg_geom.proofs.place.Place.rect.Goals as goal

pub returns : goal.returns
returns c =
    let width = to_z-of_z w64 c.args.width c.ranges.width in
    let height = to_z-of_z w64 c.args.height c.ranges.height in
    let corners = c.corners-lower_left.ensures in
    let place = c.args.self.now in
    let corner = rw (width, height) at c.point-corner.ensures in
    let opposite = rw (width, height) at c.point-opposite.ensures in
    let is : c.between.result ≡ placed_rect place.at place.orient c.args.width c.args.height c.args.rect.now =
    placed_rect-corners _ _ _ _ _ _ _ _ _ _ corners.lower_left corners.upper_right corner opposite c.between.ensures.x c.between.ensures.y in
    record { is = is; image = rw is (IsImage-placed_rect place.at place.orient c.args.width c.args.height _ corners.proper); proper = c.between.ensures.proper }

pub point-corner-requires : goal.point-corner-requires
point-corner-requires c =
    let width = to_z-of_z w64 c.args.width c.ranges.width in
    let height = to_z-of_z w64 c.args.height c.ranges.height in
    let corners = c.corners-lower_left.ensures in
    rw (width, height, corners.lower_left) (c.requires _ (HasPoint-lower_left c.args.rect.now corners.proper))

pub point-opposite-requires : goal.point-opposite-requires
point-opposite-requires c =
    let width = to_z-of_z w64 c.args.width c.ranges.width in
    let height = to_z-of_z w64 c.args.height c.ranges.height in
    let corners = c.corners-lower_left.ensures in
    rw (width, height, corners.upper_right) (c.requires _ (HasPoint-upper_right c.args.rect.now corners.proper))
