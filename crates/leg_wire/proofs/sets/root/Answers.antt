-- One step up, and the end of the way.
use Rattle.std.proofs.Common.{◌≡◌, ◌<◌, length, get_or, set, arith}
use Rattle.std.proofs.lemmas.List.{get_or_read, length-set}
use Rattle.leg_wire.proofs.WayUp.{parent_within, way_end, way_more, way_falls}
use Rattle.leg_wire.proofs.sets.root.Goals as goal

pub up-preserved : goal.up-preserved
up-preserved g c =
    let start = c.args.parents.now.items in
    let number = c.args.number in
    let parents = c.up.parents.items in
    let place = c.up.at in
    let parent = c.up.parent in
    let above = c.index-above.result.now in
    let next = c.index-parent-in-up.result.now in
    let way = c.up.invariant in
    let above_is : above ≡ get_or parents parent 0 =
    get_or_read parents parent above (parent_within start number parents place parent way) c.index-above.ensures 0 in
    let further : parent ≡ place → ⊥ = λ same. omega (arith, same, c.up-test.true) in
    let falls : above < place = way_falls start number parents place parent way above above_is further in
    let many : length (set parents place above) ≡ length parents = length-set parents place above in
    let within : place < length parents = way.within in
    let above_in : above < length (set parents place above) = omega (arith, falls, many, within) in
    way_more start number parents place parent way above above_is further next
    (get_or_read (set parents place above) above next above_in c.index-parent-in-up.ensures 0)

pub returns-clause-is : goal.returns-clause-is
returns-clause-is g c =
    way_end c.args.parents.now.items c.args.number c.up.parents.items c.up.at c.up.parent c.up.invariant
    (omega (arith, c.up-test.false)) c.requires.within
