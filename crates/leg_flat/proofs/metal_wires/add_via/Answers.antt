use Rattle.std.proofs.Common.{◌≡◌, ◌++◌, Some, slice_get, sym, rules}
use Rattle.leg_flat.proofs.DrawnMetal.{via_drawn}
use Rattle.leg_flat.proofs.metal_wires.add_via.Goals as goal

pub add_shifted-requires-clause-within : goal.add_shifted-requires-clause-within
add_shifted-requires-clause-within g c =
    let there : slice_get (c.args.design.now.library.vias ++ c.args.design.now.vias) c.args.number ≡ Some c.in-Some.via.now =
    sym (rw c.in-Some.is at c.via_numbered.ensures.is) in
    let shapes : c.as_slice.result.now ≡ c.in-Some.via.now.shapes = search rules in
    rw shapes (via_drawn c.args.design.now c.args.number c.in-Some.via.now c.requires.sound c.via_numbered.ensures.proper there)
