use Rattle.std.proofs.Common.{◌≡◌, ◌+ℤ◌, ◌-ℤ◌, Some, sym, ◌∙◌}
use Rattle.std.specs.Int.{int_min, int_max}
use Rattle.leg_grammar.specs.Lef.Copies.{length_within}
use Rattle.leg_lib.proofs.PathLines.{around_less}
use Rattle.leg_lib.proofs.path.rect_around.Goals as goal

pub new-requires : goal.new-requires
new-requires c =
    let p = c.args.p.now in
    let q = c.args.q.now in
    let half = c.args.half in
    let x1 : length_within (int_min p.x q.x -ℤ half) ≡ Some c.in_ok-x1.x1 =
    rw (c.lower.ensures, c.x.ensures, c.x-2.ensures) at (sym c.length_less.ensures ∙ c.in_ok-x1.was) in
    let y1 : length_within (int_min p.y q.y -ℤ half) ≡ Some c.in_ok-y1.y1 =
    rw (c.lower-2.ensures, c.y.ensures, c.y-2.ensures) at (sym c.length_less-2.ensures ∙ c.in_ok-y1.was) in
    let x2 : length_within (int_max p.x q.x +ℤ half) ≡ Some c.in_ok-x2.x2 =
    rw (c.higher.ensures, c.x-3.ensures, c.x-4.ensures) at (sym c.length_and.ensures ∙ c.in_ok-x2.was) in
    let y2 : length_within (int_max p.y q.y +ℤ half) ≡ Some c.in_ok-y2.y2 =
    rw (c.higher-2.ensures, c.y-3.ensures, c.y-4.ensures) at (sym c.length_and-2.ensures ∙ c.in_ok-y2.was) in
    record {
      wide = around_less p.x q.x half c.in_ok-x1.x1 c.in_ok-x2.x2 c.requires x1 x2;
      high = around_less p.y q.y half c.in_ok-y1.y1 c.in_ok-y2.y2 c.requires y1 y2;
    }
