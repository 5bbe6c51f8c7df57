-- The last part that has a free site has the last.
use Rattle.std.proofs.Common.{◌≡◌, ◌+◌, ◌-◌, length, refl, arith}
use Rattle.std.proofs.lemmas.Option.{slice_get_read}
use Rattle.leg_legal_sites.specs.Steps.Parts.{AreNoneFree}
use Rattle.leg_legal_sites.proofs.PartPlaces.{none_free, none_free_less, last_is}
use Rattle.leg_legal_sites.proofs.part_ends.last_ends.Goals as goal

pub returns-in-Some : goal.returns-in-Some
returns-in-Some g c =
    let parts = c.args.parts.now in
    let i = c.loop-i.i - 1 in
    let next : c.loop-i.i ≡ i + 1 = omega arith in
    let none : AreNoneFree parts (i + 1) (length parts) = rw next at c.loop-i.invariant in
    let at = slice_get_read parts _ i c.index-parts-i.result refl (omega arith) c.index-parts-i.is in
    last_is parts c.requires i c.index-parts-i.result c.in-Some.ends at none c.in-Some.ensures

pub loop-i-preserved : goal.loop-i-preserved
loop-i-preserved g c =
    let parts = c.args.parts.now in
    let i = c.loop-i.i - 1 in
    let next : c.loop-i.i ≡ i + 1 = omega arith in
    let none : AreNoneFree parts (i + 1) (length parts) = rw next at c.loop-i.invariant in
    let at = slice_get_read parts _ i c.index-parts-i.result refl (omega arith) c.index-parts-i.is in
    none_free_less parts i c.index-parts-i.result at c.in-None.ensures (length parts) none

pub returns : goal.returns
returns g c =
    let all : c.loop-i.i ≡ 0 = omega arith in
    let none : AreNoneFree c.args.parts.now 0 (length c.args.parts.now) = rw all at c.loop-i.invariant in
    none_free c.args.parts.now c.requires none
