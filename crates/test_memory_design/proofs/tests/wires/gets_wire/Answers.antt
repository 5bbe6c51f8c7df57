-- What the other net has, this one may get.
use Rattle.std.proofs.Common.{◌≡◌, ◌<◌, [], length, refl, sym, ap, ◌∙◌, arith}
use Rattle.std.proofs.lemmas.List.{nil_from_length}
use Rattle.test_memory_design.proofs.Wires.{spelled_of, wire_count_one}
use Rattle.test_memory_design.proofs.tests.wires.gets_wire.Goals as goal

pub with_wires-requires-clause-spelled : goal.with_wires-requires-clause-spelled
with_wires-requires-clause-spelled g c =
    let wired = c.args.wired.now in
    let design = c.args.open in
    let library : wired.library ≡ design.library = sym c.library.ensures.is ∙ c.if-not-fits.ensures.0 refl in
    let no_vias : design.vias ≡ [] = sym c.vias.ensures.is ∙ nil_from_length c.vias.result.now c.if-vias-ne0.false in
    let none_wired : wired.vias ≡ [] = sym c.vias-else-vias-ne0.ensures.is ∙ nil_from_length c.vias-else-vias-ne0.result.now c.if-vias-ne0-2.false in
    let some : 0 < length wired.nets = rw (← c.nets-else-special-ne0.ensures.is) (omega (arith, c.if-nets-ne1-2.false)) in
    let spelled =
    spelled_of wired c.nets-3.ensures.proper c.index-nets-0-2.result some (rw c.nets-3.ensures.is at c.index-nets-0-2.is) design.library design.vias library
    (none_wired ∙ sym no_vias) in
    rw (c.in_ok-wires.ensures.items ∙ c.as_slice-2.ensures ∙ ap (λ net. net.wires) c.net.view_is) spelled

pub with_wires-requires-clause-few : goal.with_wires-requires-clause-few
with_wires-requires-clause-few g c =
    let design = c.args.open in
    let none : length c.index-nets-0.result.wires ≡ 0 = rw (← ap (λ net. net.wires) c.before-2.view_is, ← c.as_slice.ensures) c.if-as_slice-ne0.false in
    let one : length design.nets ≡ 1 = rw (← c.nets.ensures.is) c.if-nets-ne1.false in
    let no_wires = wire_count_one design.nets c.index-nets-0.result one (rw c.nets-2.ensures.is at c.index-nets-0.is) none in
    let special : design.special ≡ [] = sym c.special.ensures.is ∙ nil_from_length c.special.result.now c.if-special-ne0.false in
    let wires = c.in_ok-wires.ensures.items ∙ c.as_slice-2.ensures ∙ sym c.as_slice-else-as_slice-ne0.ensures in
    rw (no_wires, special, wires, c.if-as_slice-ne1.false) (omega arith)
