-- What the nets of one reading have, those of the other may get.
use Rattle.std.proofs.Common.{◌≡◌, ◌∙◌, false, List, [], length, All, refl, sym, ap, subst, arith}
use Rattle.std.proofs.lemmas.List.{length-map}
use Rattle.leg_lib_records.specs.Records.{LibraryModel, ViaModel}
use Rattle.leg_design_records.specs.Records.{wire_count}
use Rattle.leg_design_records.specs.WellFormedNets.{IsWire}
use Rattle.test_memory_design.proofs.MoreWires.{wire_count_more}
use Rattle.test_memory_design.proofs.tests.two_nets.both_get_wires.Goals as goal

pub with_all_wires-requires-clause-one_each : goal.with_all_wires-requires-clause-one_each
with_all_wires-requires-clause-one_each g c =
    let lists : length c.in_ok-lists.lists.items ≡ length c.args.again.now.nets = simp length-map at (ap length c.in_ok-lists.ensures.are) in
    lists ∙ c.if-not-has_two_wires-2.ensures.nets refl ∙ sym (c.if-not-has_two_wires.ensures.nets refl)

pub with_all_wires-requires-clause-few : goal.with_all_wires-requires-clause-few
with_all_wires-requires-clause-few g c =
    let special : c.args.design.special ≡ [] = c.if-not-has_two_wires.ensures.special refl in
    let count : wire_count c.args.design.nets ≡ 2 = c.if-not-has_two_wires.ensures.wires refl in
    let more : wire_count c.args.again.now.nets ≡ 2 = c.if-not-has_two_wires-2.ensures.wires refl in
    rw (c.in_ok-lists.ensures.are, special) (omega (arith, wire_count_more c.args.design.nets c.args.again.now.nets))

pub with_all_wires-requires-clause-spelled : goal.with_all_wires-requires-clause-spelled
with_all_wires-requires-clause-spelled g c =
    let library : c.args.again.now.library ≡ c.args.design.library = sym c.library.ensures.is ∙ c.if-not-fits.ensures.0 refl in
    let vias : c.args.again.now.vias ≡ c.args.design.vias = c.if-not-has_two_wires-2.ensures.vias refl ∙ sym (c.if-not-has_two_wires.ensures.vias refl) in
    let lists = c.in_ok-lists.lists.items in
    let there = subst (λ (l : LibraryModel). All (λ w. All (IsWire l c.args.again.now.vias false) w.items) lists) library c.in_ok-lists.ensures.spelled in
    subst (λ (v : List ViaModel). All (λ w. All (IsWire c.args.design.library v false) w.items) lists) vias there
