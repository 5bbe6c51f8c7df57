use Rattle.std.proofs.Common.{◌≡◌, length, sym, ap, ◌∙◌, zero-add, rules}
use Rattle.leg_flat.proofs.MetalWalks.{pin_metal, pins_walk}
use Rattle.leg_flat.proofs.Counts.{drawn_length, counts_more, counts_all}
use Rattle.leg_flat.proofs.metal_count.count_pins.Goals as goal

pub loop-pin-preserved : goal.loop-pin-preserved
loop-pin-preserved g c = λ design c' place size.
    let shapes : c.as_slice.result.now ≡ c.pin-item.result.shapes = search rules in
    counts_more (pin_metal design c' place size) 0 c.args.pins.now c.counted-count.result c.loop-pin.pin-index c.loop-pin.pin-index c.pin-item.result
    c.loop-pin.count _ _ (sym (zero-add _)) c.loop-pin-test.true c.pin-item.is (c.loop-pin.invariant design c' place size) c.counted-count-in-loop-pin.ensures
    (ap length shapes ∙ sym (drawn_length _ _ _ _))

pub returns : goal.returns
returns g c = λ design c' place size.
    counts_all (pin_metal design c' place size) 0 c.args.pins.now c.counted-count.result c.loop-pin.pin-index c.args.before c.loop-pin.count _
    c.loop-pin-test.false c.counted-count.ensures (pins_walk _ _ _ _ _ _) (c.loop-pin.invariant design c' place size)
