-- What the other net has, this one may get.
use Rattle.std.proofs.Common.{rules, ◌≡◌, ◌<◌, [], ◌∷◌, All, false, length, refl, sym, ap, ◌∙◌, arith}
use Rattle.std.proofs.lemmas.List.{nil_from_length}
use Rattle.std.proofs.lemmas.List.Elements.{All-cons}
use Rattle.leg_design_records.specs.WellFormedNets.{IsWire}
use Rattle.test_memory_design.proofs.Wires.{spelled_of, wire_count_with}
use Rattle.test_memory_design.proofs.tests.wires.gets_all_wires.Goals as goal

pub with_all_wires-requires-clause-spelled : goal.with_all_wires-requires-clause-spelled
with_all_wires-requires-clause-spelled g c =
    let wired = c.args.wired.now in
    let design = c.args.open in
    let library : wired.library ≡ design.library = sym c.library.ensures.is ∙ c.if-not-fits.ensures.0 refl in
    let no_vias : design.vias ≡ [] = sym c.vias.ensures.is ∙ nil_from_length c.vias.result.now c.if-vias-ne0.false in
    let none_wired : wired.vias ≡ [] = sym c.vias-else-vias-ne0.ensures.is ∙ nil_from_length c.vias-else-vias-ne0.result.now c.if-vias-ne0-2.false in
    let some : 0 < length wired.nets = rw (← c.nets-else-special-ne0.ensures.is) (omega (arith, c.if-nets-ne1-2.false)) in
    let spelled =
    spelled_of wired c.nets-3.ensures.proper c.index-nets-0-2.result some (rw c.nets-3.ensures.is at c.index-nets-0-2.is) design.library design.vias library
    (none_wired ∙ sym no_vias) in
    let lists : c.push.new.self.items ≡ c.in_ok-wires.wires ∷ [] = search rules in
    let wires : All (IsWire design.library design.vias false) c.in_ok-wires.wires.items =
    rw (c.in_ok-wires.ensures.items ∙ c.as_slice-2.ensures ∙ ap (λ net. net.wires) c.net.view_is) spelled in
    rw lists (All-cons (λ w. All (IsWire design.library design.vias false) w.items) c.in_ok-wires.wires [] wires (λ k d less. absurd (omega (arith, less))))

pub with_all_wires-requires-clause-few : goal.with_all_wires-requires-clause-few
with_all_wires-requires-clause-few g c =
    let design = c.args.open in
    let none : length c.index-nets-0.result.wires ≡ 0 = rw (← ap (λ net. net.wires) c.before-2.view_is, ← c.as_slice.ensures) c.if-as_slice-ne0.false in
    let one : length design.nets ≡ 1 = rw (← c.nets.ensures.is) c.if-nets-ne1.false in
    let special : design.special ≡ [] = sym c.special.ensures.is ∙ nil_from_length c.special.result.now c.if-special-ne0.false in
    let wires = c.in_ok-wires.ensures.items ∙ c.as_slice-2.ensures ∙ sym c.as_slice-else-as_slice-ne0.ensures in
    let lists : c.push.new.self.items ≡ c.in_ok-wires.wires ∷ [] = search rules in
    let count = wire_count_with design.nets c.index-nets-0.result c.in_ok-wires.wires.items one (rw c.nets-2.ensures.is at c.index-nets-0.is) none in
    let few : length c.in_ok-wires.wires.items ≡ 1 = rw wires c.if-as_slice-ne1.false in
    rw (lists, count, special, few) (omega arith)
