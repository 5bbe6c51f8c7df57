use Rattle.std.proofs.Common.{◌≡◌, ◌+ℤ◌, Some, sym, ◌∙◌}
use Rattle.leg_grammar.specs.Lef.Copies.{length_within}
use Rattle.leg_lib.proofs.CopiedShapes.{moved_less}
use Rattle.leg_lib.proofs.copies.moved_rect.Goals as goal

pub new-requires : goal.new-requires
new-requires c =
    let way = c.args.way.now in
    let rect = c.args.rect.now in
    let x1 : length_within (rect.x1 +ℤ way.x) ≡ Some c.in_ok-x1.x1 =
    rw (← c.x1.ensures.is, ← c.x.ensures) (sym c.length_and.ensures ∙ c.in_ok-x1.was) in
    let y1 : length_within (rect.y1 +ℤ way.y) ≡ Some c.in_ok-y1.y1 =
    rw (← c.y1.ensures.is, ← c.y.ensures) (sym c.length_and-2.ensures ∙ c.in_ok-y1.was) in
    let x2 : length_within (rect.x2 +ℤ way.x) ≡ Some c.in_ok-x2.x2 =
    rw (← c.x2.ensures.is, ← c.x-2.ensures) (sym c.length_and-3.ensures ∙ c.in_ok-x2.was) in
    let y2 : length_within (rect.y2 +ℤ way.y) ≡ Some c.in_ok-y2.y2 =
    rw (← c.y2.ensures.is, ← c.y-2.ensures) (sym c.length_and-4.ensures ∙ c.in_ok-y2.was) in
    record {
      wide = moved_less rect.x1 rect.x2 way.x c.in_ok-x1.x1 c.in_ok-x2.x2 c.x1.ensures.proper.wide x1 x2;
      high = moved_less rect.y1 rect.y2 way.y c.in_ok-y1.y1 c.in_ok-y2.y2 c.x1.ensures.proper.high y1 y2;
    }
