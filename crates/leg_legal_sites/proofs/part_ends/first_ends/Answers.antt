-- The first part that has a free site has the first.
use Rattle.std.proofs.Common.{refl, arith}
use Rattle.std.proofs.lemmas.Option.{slice_get_read}
use Rattle.leg_legal_sites.proofs.PartPlaces.{none_free, none_free_more, first_is}
use Rattle.leg_legal_sites.proofs.part_ends.first_ends.Goals as goal

pub returns-in-Some : goal.returns-in-Some
returns-in-Some g c =
    let parts = c.args.parts.now in
    let i = c.loop-i.i in
    let at = slice_get_read parts _ i c.index-parts-i.result refl (omega arith) c.index-parts-i.is in
    first_is parts c.requires i c.index-parts-i.result c.in-Some.ends at c.loop-i.invariant c.in-Some.ensures

pub loop-i-preserved : goal.loop-i-preserved
loop-i-preserved g c =
    let parts = c.args.parts.now in
    let i = c.loop-i.i in
    let at = slice_get_read parts _ i c.index-parts-i.result refl (omega arith) c.index-parts-i.is in
    none_free_more parts i c.index-parts-i.result at c.in-None.ensures 0 c.loop-i.invariant

pub returns : goal.returns
returns g c =
    let all = c.loop-i-test.false in
    none_free c.args.parts.now c.requires (λ n k p above below there. c.loop-i.invariant n k p above (omega (arith, below, all)) there)
