use Rattle.std.proofs.Common.{◌≡◌, length, sym, ap, ◌∙◌, zero-add, rules}
use Rattle.leg_lemmas.proofs.Places.{read_at}
use Rattle.leg_rules.specs.Metal.Metal.{ports_outlines}
use Rattle.leg_flat.proofs.MetalWalks.{design_pin_metal, design_pins_walk}
use Rattle.leg_flat.proofs.Counts.{belonging_length, counts_at, counts_all}
use Rattle.leg_flat.proofs.metal_count.count_design_pins.Goals as goal

pub loop-pin-preserved : goal.loop-pin-preserved
loop-pin-preserved g c =
    let there = read_at _ c.args.design.now.pins c.loop-pin.pin-index c.pin-item.result c.pins-pin-items.ensures.is c.loop-pin-test.true c.pin-item.is in
    let ports : c.as_slice.result.now ≡ c.pin-item.result.ports = search rules in
    counts_at (design_pin_metal c.args.design.now) 0 c.args.design.now.pins c.counted-count.result c.loop-pin.pin-index c.loop-pin.pin-index c.pin-item.result
    c.loop-pin.count _ _ (sym (zero-add _)) there c.loop-pin.invariant c.count_ports-count.ensures
    (ap (λ ports. length (ports_outlines ports)) ports ∙ sym (belonging_length _ _))

pub returns : goal.returns
returns g c =
    let past = rw c.pins-pin-items.ensures.is at c.loop-pin-test.false in
    counts_all (design_pin_metal c.args.design.now) 0 c.args.design.now.pins c.counted-count.result c.loop-pin.pin-index c.args.before c.loop-pin.count _ past
    c.counted-count.ensures (design_pins_walk _ _ _) c.loop-pin.invariant
