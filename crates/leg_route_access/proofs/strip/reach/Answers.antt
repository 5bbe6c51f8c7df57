use Rattle.std.proofs.Common.{◌≡◌, ℤ, ◌-ℤ◌, ◌+ℤ◌, FitsSigned, w64, to_z, of_z, ap, ◌∙◌, arith}
use Rattle.std.proofs.lemmas.Int.{ints, to_z-of_z}
use Rattle.leg_rules.specs.Route.StepWires.{half}
use Rattle.leg_route_access.proofs.Squares.{half_is}
use Rattle.leg_route_access.proofs.Strips.{span_of}
use Rattle.leg_route_access.proofs.strip.reach.Goals as goal

pub returns : goal.returns
returns c =
    let within = (half_is c.args.width c.requires.width).within in
    let from = c.requires.low in
    let to = c.requires.high in
    let h = c.half-half.ensures ∙ ap half (to_z-of_z w64 c.args.width c.ranges.width) in
    let half_fits : FitsSigned w64 c.half-half.result = omega (arith, ints) in
    let low_fits : FitsSigned w64 (c.args.low -ℤ c.half-half.result) = omega (arith, ints) in
    let high_fits : FitsSigned w64 (c.args.high +ℤ c.half-half.result) = omega (arith, ints) in
    let low : to_z w64 (of_z w64 (to_z w64 (of_z w64 c.args.low) -ℤ to_z w64 (of_z w64 c.half-half.result))) ≡ c.args.low -ℤ half c.args.width =
    rw (to_z-of_z w64 c.args.low c.ranges.low, to_z-of_z w64 c.half-half.result half_fits, to_z-of_z w64 (c.args.low -ℤ c.half-half.result) low_fits)
    (ap (λ (z : ℤ). c.args.low -ℤ z) h) in
    let high : to_z w64 (of_z w64 (to_z w64 (of_z w64 c.args.high) +ℤ to_z w64 (of_z w64 c.half-half.result))) ≡ c.args.high +ℤ half c.args.width =
    rw (to_z-of_z w64 c.args.high c.ranges.high, to_z-of_z w64 c.half-half.result half_fits, to_z-of_z w64 (c.args.high +ℤ c.half-half.result) high_fits)
    (ap (λ (z : ℤ). c.args.high +ℤ z) h) in
    record { span = span_of c.args.low c.args.high c.args.width _ _ c.requires.width from to c.requires.order low high; low = low; high = high }
