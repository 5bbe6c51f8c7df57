use Rattle.std.proofs.Common.{◌≡◌, pos, ◌+ℤ◌, ◌*ℤ◌, to_z, of_z, w64, ap, ◌∙◌, arith}
use Rattle.std.proofs.lemmas.Int.{ints, to_z-of_z}
use Rattle.leg_generated_via.proofs.ArraySides.{side_kept}
use Rattle.leg_generated_via.proofs.cut_array.cut_start.Goals as goal

pub returns-clause-is : goal.returns-clause-is
returns-clause-is c =
    let side = to_z-of_z w64 c.args.side c.ranges.side in
    let gap = to_z-of_z w64 c.args.gap c.ranges.gap in
    let start = to_z-of_z w64 c.args.start c.ranges.start in
    let pitch : c.pitch.result ≡ c.args.side +ℤ c.args.gap = rw (side, gap) at c.pitch.ensures.is in
    let kept : to_z w64 (of_z w64 c.pitch.result) ≡ c.pitch.result = side_kept c.pitch.result (omega (arith, c.pitch.ensures.small)) in
    let way : c.steps.result ≡ pos c.args.number *ℤ (c.args.side +ℤ c.args.gap) =
    c.steps.ensures.is ∙ ap (λ step. pos c.args.number *ℤ step) (kept ∙ pitch) in
    let sum : to_z w64 (of_z w64 (c.args.start +ℤ c.steps.result)) ≡ c.args.start +ℤ c.steps.result = omega (arith, ints) in
    rw (start, side_kept c.steps.result (omega (arith, c.steps.ensures.small)), sum) (ap (λ z. c.args.start +ℤ z) way)
