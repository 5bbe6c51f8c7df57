use Rattle.std.proofs.Common.{◌≡◌, ◌++◌, [], length, take, drop, refl, sym, ap, ◌∙◌}
use Rattle.std.proofs.Math.Seq.{take-append_seam}
use Rattle.leg_route_access.proofs.added.slots_beside.Goals as goal

pub add_shapes-requires-clause-count : goal.add_shapes-requires-clause-count
add_shapes-requires-clause-count g c = rw c.deref_mut.ensures.value (c.in_ok-slots.ensures (record { shapes = []; pieces = [] }) refl).count

pub returns : goal.returns
returns g c flat are =
    let bare = c.in_ok-slots.slots in
    let told = rw c.deref_mut.ensures.value at c.add_shapes.ensures.told in
    let new = c.add_shapes.new.slots in
    let rest = drop (length new) bare.items in
    let long : length new ≡ bare.len = c.add_shapes.ensures.count ∙ c.deref_mut.ensures.len in
    let kept : take bare.len (new ++ rest) ≡ new = ap (λ n. take n (new ++ rest)) (sym long) ∙ take-append_seam new rest in
    rw kept (told [] c.in_ok-slots.ensures flat are)
