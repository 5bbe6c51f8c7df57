-- One more shape stands in the list of its kind.
use Rattle.std.proofs.Common.{◌≡◌, ◌++◌, ◌∷◌, [], ℕ, ◌<◌, Some, slice_get, slice_set, length, get_or, arith}
use Rattle.std.proofs.lemmas.Grind.{common_steps}
use Rattle.std.proofs.lemmas.Option.{slice_get-get_or}
use Rattle.leg_wire.proofs.NetNumbers.{lists_written}
use Rattle.leg_wire.proofs.AlikeMetal.{members_more, members_all}
use Rattle.leg_wire.proofs.members.members_of.Goals as goal

pub loop-shape-preserved : goal.loop-shape-preserved
loop-shape-preserved g c =
    let numbers = c.args.numbers.now in
    let i : ℕ = c.loop-shape.shape in
    let members = c.loop-shape.members.items in
    let own : ℕ = get_or numbers i 0 in
    let within : i < length numbers = omega arith in
    let at : slice_get numbers i ≡ Some own = slice_get-get_or numbers i 0 within in
    let low : own < c.args.count = c.requires.within i 0 within in
    let longer = get_or members own [] ++ i ∷ [] in
    let size : c.loop-shape.members.len ≡ length members = grind (arith, common_steps) in
    let put : c.add_number.new.lists ≡ slice_set members own longer = rw c.deref_mut.ensures.value at c.in_ok-add_number.ensures in
    rw (lists_written members own longer c.add_number.new.lists c.loop-shape.members.len put size)
    (members_more numbers i c.args.count members c.loop-shape.invariant own at low)

pub returns : goal.returns
returns g c = members_all c.args.numbers.now c.loop-shape.shape c.args.count c.loop-shape.members.items (omega arith) c.loop-shape.invariant
