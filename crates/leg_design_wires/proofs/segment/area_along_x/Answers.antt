use Rattle.std.proofs.Common.{rules, ◌≡◌, ℤ, pos, ◌-ℤ◌, ap, ◌∙◌, w64, SFits, arith}
use Rattle.std.proofs.lemmas.Int.{ints, to_z-of_z, fits_signed_from_abs}
use Rattle.leg_lex.specs.Number.{IsNumber}
use Rattle.leg_grammar.specs.Def.CutArray.{area_of}
use Rattle.leg_grammar.specs.Def.Path.{line_start, line_end}
use Rattle.leg_design_wires.proofs.segment.area_along_x.Goals as goal

opposite_fits : (z : ℤ) → IsNumber z → SFits w64 (pos 0 -ℤ z)
opposite_fits z number = fits_signed_from_abs w64 (pos 0 -ℤ z) (omega (arith, ints))

pub returns : goal.returns
returns c =
    let a = to_z-of_z w64 c.args.a c.ranges.a in
    let b = to_z-of_z w64 c.args.b c.ranges.b in
    let beyond_a = to_z-of_z w64 c.args.beyond_a c.ranges.beyond_a in
    let beyond_b = to_z-of_z w64 c.args.beyond_b c.ranges.beyond_b in
    let half = to_z-of_z w64 c.args.half c.ranges.half in
    let opposite = to_z-of_z w64 (pos 0 -ℤ c.args.half) (opposite_fits c.args.half c.requires.half) in
    let start_fits : SFits w64 c.line_start-start.result = search rules in
    let end_fits : SFits w64 c.line_end-end.result = search rules in
    let start_kept = to_z-of_z w64 c.line_start-start.result start_fits in
    let end_kept = to_z-of_z w64 c.line_end-end.result end_fits in
    let start : c.line_start-start.result ≡ line_start c.args.a c.args.b c.args.beyond_a c.args.beyond_b =
    rw (a, b, beyond_a, beyond_b) at c.line_start-start.ensures in
    let end : c.line_end-end.result ≡ line_end c.args.a c.args.b c.args.beyond_a c.args.beyond_b =
    rw (a, b, beyond_a, beyond_b) at c.line_end-end.ensures in
    let is : c.area.result ≡ area_of (record {
      x1 = c.line_start-start.result;
      y1 = pos 0 -ℤ c.args.half;
      x2 = c.line_end-end.result;
      y2 = c.args.half;
    }) = rw (half, opposite, start_kept, end_kept) at c.area.ensures in
    is
    ∙ ap (λ low. area_of (record { x1 = low; y1 = pos 0 -ℤ c.args.half; x2 = c.line_end-end.result; y2 = c.args.half })) start
    ∙ ap (λ high. area_of (record {
      x1 = line_start c.args.a c.args.b c.args.beyond_a c.args.beyond_b;
      y1 = pos 0 -ℤ c.args.half;
      x2 = high;
      y2 = c.args.half;
    })) end
