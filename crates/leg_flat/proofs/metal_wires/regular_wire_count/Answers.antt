use Rattle.std.proofs.Common.{◌≡◌, Some, None, length, refl, ap, ◌∙◌}
use Rattle.std.specs.List.{slice_get}
use Rattle.std.proofs.lemmas.Option.{slice_get_read, slice_get_past}
use Rattle.leg_design_records.specs.Records.{NetModel}
use Rattle.leg_flat.proofs.metal_wires.regular_wire_count.Goals as goal

pub returns-in-Some : goal.returns-in-Some
returns-in-Some g c =
    let net : NetModel = c.in-Some.net.now in
    let there : slice_get c.nets.result.now c.args.n ≡ Some net =
    slice_get_read c.nets.result.now _ c.args.n net refl c.in-Some.ensures.lookup.3.0 c.in-Some.ensures.lookup.1 in
    let entry : slice_get c.args.design.now.nets c.args.n ≡ Some net = rw (← c.nets.ensures.is) there in
    rw entry (ap length c.as_slice.ensures ∙ ap (λ (n : NetModel). length n.wires) c.net.view_is)

pub returns-in-None : goal.returns-in-None
returns-in-None g c =
    let none : slice_get c.nets.result.now c.args.n ≡ None = slice_get_past c.nets.result.now c.args.n c.in-None.ensures.lookup.3 in
    let entry : slice_get c.args.design.now.nets c.args.n ≡ None = rw (← c.nets.ensures.is) none in
    rw entry refl
