-- The first part in which some fit has the first, and a group that is short is passed.
use Rattle.std.proofs.Common.{refl, arith}
use Rattle.std.proofs.lemmas.Option.{slice_get_read}
use Rattle.leg_legal_sites.proofs.Parts.{first_in_all, none_in_all, none_more}
use Rattle.leg_legal_sites.proofs.PartPlaces.{pass_short}
use Rattle.leg_legal_sites.proofs.part_search.first_in_parts.Goals as goal

pub parts-preserved-then-is_short : goal.parts-preserved-then-is_short
parts-preserved-then-is_short g c =
    pass_short c.args.parts.now c.args.groups.now c.parts.i c.args.many c.args.least c.requires.parts.grouped (c.is_short.ensures c.if-is_short.true)
    c.parts.invariant

pub returns-in-Some : goal.returns-in-Some
returns-in-Some g c =
    let parts = c.args.parts.now in
    let i = c.parts.i in
    let p = c.index-parts-i.result in
    let at = slice_get_read parts _ i p refl (omega arith) c.index-parts-i.is in
    first_in_all parts c.requires.parts.in_row c.args.many c.requires.some c.args.least i c.in-Some.first p c.parts.invariant at c.in-Some.ensures

pub parts-preserved : goal.parts-preserved
parts-preserved g c =
    let parts = c.args.parts.now in
    let i = c.parts.i in
    let at = slice_get_read parts _ i c.index-parts-i.result refl (omega arith) c.index-parts-i.is in
    none_more parts c.args.many i c.index-parts-i.result at c.args.least c.in-None.ensures c.parts.invariant

pub returns : goal.returns
returns g c =
    none_in_all c.args.parts.now c.requires.parts.in_row c.args.many c.requires.some c.args.least c.parts.i c.parts-test.false c.parts.invariant
