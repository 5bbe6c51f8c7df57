-- The first and the last part have them.
use Rattle.std.proofs.Common.{refl, arith}
use Rattle.std.proofs.lemmas.Option.{slice_get_read}
use Rattle.leg_legal_sites.proofs.PartPlaces.{all_no_longer, all_of_one}
use Rattle.leg_legal_sites.proofs.part_ends.ends_of.Goals as goal

pub returns-then-parts-eq1 : goal.returns-then-parts-eq1
returns-then-parts-eq1 g c =
    let parts = c.args.parts.now in
    let one = c.if-parts-eq1.true in
    let at = slice_get_read parts _ 0 c.index-parts-0.result refl (omega (arith, one)) c.index-parts-0.is in
    rw (all_of_one parts c.index-parts-0.result one at) c.ends.ensures

pub returns : goal.returns
returns g c = record {
  first = c.in_ok-first.ensures.0;
  last = c.in_ok-last.ensures.last;
  some = c.in_ok-last.ensures.some;
  above = c.in_ok-first.ensures.1;
  below = c.in_ok-last.ensures.below;
  longest = all_no_longer c.args.parts.now c.requires.in_row c.longest_of_all.result c.longest_of_all.ensures;
}
