use Rattle.std.proofs.Common.{◌≡◌, sym, zero-add, rules}
use Rattle.std.proofs.lemmas.List.Elements.{All-weaker}
use Rattle.leg_lemmas.proofs.Places.{read_at, all_at}
use Rattle.leg_design_records.specs.WellFormedParts.{IsPin, IsPort}
use Rattle.leg_flat.specs.Steps.AddedMetal.{IsPortWithin}
use Rattle.leg_flat.proofs.MoreMetal.{adds_at, adds_all}
use Rattle.leg_flat.proofs.MetalWalks.{design_pin_metal, design_pins_walk}
use Rattle.leg_flat.proofs.DrawnMetal.{port_within}
use Rattle.leg_flat.proofs.metal.add_design_pins.Goals as goal

pub add_ports-requires : goal.add_ports-requires
add_ports-requires g c =
    let there = read_at _ c.args.design.now.pins c.loop-p.p c.pin-item.result c.pins-pin-items.ensures.is c.loop-p-test.true c.pin-item.is in
    let ports : c.as_slice.result.now ≡ c.pin-item.result.ports = search rules in
    let known = all_at (IsPin c.args.design.now.library) c.args.design.now.pins c.loop-p.p c.pin-item.result c.pins-pin-items.ensures.proper.pins.each there in
    rw ports (All-weaker (IsPort c.args.design.now.library) IsPortWithin (port_within c.args.design.now.library) c.pin-item.result.ports known.ports)

pub loop-p-preserved : goal.loop-p-preserved
loop-p-preserved g c =
    let there = read_at _ c.args.design.now.pins c.loop-p.p c.pin-item.result c.pins-pin-items.ensures.is c.loop-p-test.true c.pin-item.is in
    let ports : c.as_slice.result.now ≡ c.pin-item.result.ports = search rules in
    let belongs = c.of_design_pin-belongs.ensures c.args.design.now c.requires in
    adds_at (design_pin_metal c.args.design.now) 0 c.args.design.now.pins c.args.shapes.now.items c.loop-p.p c.loop-p.p c.pin-item.result
    c.loop-p.shapes.items _ (sym (zero-add _)) there c.loop-p.invariant (rw (belongs, ports) at c.in_ok-add_ports.ensures)

pub returns : goal.returns
returns g c =
    let past = rw c.pins-pin-items.ensures.is at c.loop-p-test.false in
    adds_all (design_pin_metal c.args.design.now) 0 c.args.design.now.pins c.args.shapes.now.items c.loop-p.p c.loop-p.shapes.items _ past
    (design_pins_walk _ _ _) c.loop-p.invariant
