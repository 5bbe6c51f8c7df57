-- The last part in which some fit has the last, and a group that is short is passed.
use Rattle.std.proofs.Common.{◌≡◌, ◌+◌, ◌-◌, refl, arith}
use Rattle.std.proofs.lemmas.Option.{slice_get_read}
use Rattle.leg_legal_sites.specs.declared.part_groups.TheConstants.{GROUP}
use Rattle.leg_legal_sites.specs.Steps.Parts.{NoneFitsFrom}
use Rattle.leg_legal_sites.proofs.Parts.{last_in_all, none_last_in_all, none_less}
use Rattle.leg_legal_sites.proofs.PartPlaces.{pass_short_down}
use Rattle.leg_legal_sites.proofs.part_search.last_in_parts.Goals as goal

pub parts-preserved-then-is_short : goal.parts-preserved-then-is_short
parts-preserved-then-is_short g c =
    let parts = c.args.parts.now in
    let i = c.parts.i - GROUP in
    let next : c.parts.i ≡ i + GROUP = omega arith in
    let none : NoneFitsFrom parts c.args.many c.args.most (i + GROUP) = rw next at c.parts.invariant.none in record {
      within = let within = c.parts.invariant.within in omega (arith, within);
      none = pass_short_down parts c.args.groups.now i c.args.many c.args.most c.requires.parts.grouped (c.is_short.ensures c.if-is_short.true) none;
    }

pub returns-in-Some : goal.returns-in-Some
returns-in-Some g c =
    let parts = c.args.parts.now in
    let i = c.parts.i - 1 in
    let p = c.index-parts-i.result in
    let next : c.parts.i ≡ i + 1 = omega arith in
    let none : NoneFitsFrom parts c.args.many c.args.most (i + 1) = rw next at c.parts.invariant.none in
    let at = slice_get_read parts _ i p refl (omega arith) c.index-parts-i.is in
    last_in_all parts c.requires.parts.in_row c.args.many c.requires.some c.args.most i c.in-Some.first p none at c.in-Some.ensures

pub parts-preserved : goal.parts-preserved
parts-preserved g c =
    let parts = c.args.parts.now in
    let i = c.parts.i - 1 in
    let p = c.index-parts-i.result in
    let next : c.parts.i ≡ i + 1 = omega arith in
    let none : NoneFitsFrom parts c.args.many c.args.most (i + 1) = rw next at c.parts.invariant.none in
    let at = slice_get_read parts _ i p refl (omega arith) c.index-parts-i.is in record {
      within = let within = c.parts.invariant.within in omega (arith, within);
      none = none_less parts c.args.many i p at c.args.most c.in-None.ensures none;
    }

pub returns : goal.returns
returns g c =
    let all : c.parts.i ≡ 0 = omega arith in
    let none : NoneFitsFrom c.args.parts.now c.args.many c.args.most 0 = rw all at c.parts.invariant.none in
    none_last_in_all c.args.parts.now c.requires.parts.in_row c.args.many c.requires.some c.args.most none
