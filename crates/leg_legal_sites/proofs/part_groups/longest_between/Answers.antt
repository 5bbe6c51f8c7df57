-- One more part is no longer.
use Rattle.std.proofs.Common.{refl, arith}
use Rattle.std.proofs.lemmas.Option.{slice_get_read}
use Rattle.leg_legal_sites.proofs.PartPlaces.{no_longer_more, no_longer_within}
use Rattle.leg_legal_sites.proofs.part_groups.longest_between.Goals as goal

pub loop-i-preserved : goal.loop-i-preserved
loop-i-preserved g c =
    let parts = c.args.parts.now in
    let i = c.loop-i.i in
    let at = slice_get_read parts _ i c.index-parts-i.result refl (omega arith) c.index-parts-i.is in
    no_longer_more parts c.args.from i c.loop-i.longest c.longest.result c.index-parts-i.result at c.longest.ensures c.loop-i.invariant
    c.max-longest.result (omega arith) (omega arith)

pub returns : goal.returns
returns g c = no_longer_within c.args.parts.now c.args.from c.loop-i.i c.args.end c.loop-i.longest c.loop-i-test.false c.loop-i.invariant
