use Rattle.std.proofs.Common.{◌+ℤ◌, ◌-ℤ◌, inl, true, false, w64, arith}
use Rattle.std.proofs.lemmas.Int.{to_z-of_z}
use Rattle.leg_geom.specs.Line.{ArePlaces}
use Rattle.leg_route_access.proofs.MetalReach.{places_before, place_before, far_fits, low_fits, high_fits, coordinate_fits}
use Rattle.leg_route_access.proofs.added.places_near.Goals as goal

pub returns-then-back : goal.returns-then-back
returns-then-back c =
    let values = c.args.values.now in
    let low = c.args.low in
    let high = c.args.high in
    let far = c.args.far in
    let is_far = c.requires.far in
    let places : ArePlaces values (low -ℤ far) (high +ℤ far) c.places_within-first.result.0 c.places_within-first.result.1 =
    rw (
      to_z-of_z w64 far (far_fits far is_far),
      to_z-of_z w64 low (coordinate_fits low c.requires.low),
      to_z-of_z w64 high (coordinate_fits high c.requires.high),
      to_z-of_z w64 (low -ℤ far) (low_fits low far c.requires.low is_far),
      to_z-of_z w64 (high +ℤ far) (high_fits high far c.requires.high is_far),
    ) at (c.places_within-first.ensures.places c.requires.rising) in
    rw c.if-back.true
    (places_before values true (low -ℤ far) (high +ℤ far) c.places_within-first.result.0 c.places_within-first.result.1 c.saturating_sub.result places
    (place_before c.places_within-first.result.0 c.saturating_sub.result c.saturating_sub.ensures))

pub returns-else-back : goal.returns-else-back
returns-else-back c =
    let values = c.args.values.now in
    let low = c.args.low in
    let high = c.args.high in
    let far = c.args.far in
    let is_far = c.requires.far in
    let places : ArePlaces values (low -ℤ far) (high +ℤ far) c.places_within-first.result.0 c.places_within-first.result.1 =
    rw (
      to_z-of_z w64 far (far_fits far is_far),
      to_z-of_z w64 low (coordinate_fits low c.requires.low),
      to_z-of_z w64 high (coordinate_fits high c.requires.high),
      to_z-of_z w64 (low -ℤ far) (low_fits low far c.requires.low is_far),
      to_z-of_z w64 (high +ℤ far) (high_fits high far c.requires.high is_far),
    ) at (c.places_within-first.ensures.places c.requires.rising) in
    rw c.if-back.false
    (places_before values false (low -ℤ far) (high +ℤ far) c.places_within-first.result.0 c.places_within-first.result.1 c.places_within-first.result.0 places
    (inl (omega arith)))
