-- The second net may get what it has in another reading: of the same library and vias, and few wires, two in each of the two.
use Rattle.std.proofs.Common.{◌≡◌, ◌∙◌, false, List, [], All, refl, sym, subst, arith}
use Rattle.leg_lib_records.specs.Records.{LibraryModel, ViaModel}
use Rattle.leg_design_records.specs.Records.{wire_count}
use Rattle.leg_design_records.specs.WellFormedNets.{IsWire}
use Rattle.test_memory_design.proofs.tests.two_nets.second_gets_wire.Goals as goal

pub with_wires-requires-clause-few : goal.with_wires-requires-clause-few
with_wires-requires-clause-few g c =
    let special : c.args.design.special ≡ [] = c.if-not-has_two_wires.ensures.special refl in
    let count : wire_count c.args.design.nets ≡ 2 = c.if-not-has_two_wires.ensures.wires refl in
    let more : wire_count c.args.again.now.nets ≡ 2 = c.if-not-has_two_wires-2.ensures.wires refl in
    rw special (omega (arith, count, more, c.in_ok-wires.ensures.few))

pub with_wires-requires-clause-spelled : goal.with_wires-requires-clause-spelled
with_wires-requires-clause-spelled g c =
    let library : c.args.again.now.library ≡ c.args.design.library = sym c.library.ensures.is ∙ c.if-not-fits.ensures.0 refl in
    let vias : c.args.again.now.vias ≡ c.args.design.vias = c.if-not-has_two_wires-2.ensures.vias refl ∙ sym (c.if-not-has_two_wires.ensures.vias refl) in
    let wires = c.in_ok-wires.wires.items in
    let there = subst (λ (l : LibraryModel). All (IsWire l c.args.again.now.vias false) wires) library c.in_ok-wires.ensures.spelled in
    subst (λ (v : List ViaModel). All (IsWire c.args.design.library v false) wires) vias there
