use Rattle.std.proofs.Common.{◌≡◌, ◌*◌, sym, zero-add, rules}
use Rattle.leg_lemmas.proofs.Places.{read_at, all_at}
use Rattle.leg_lex.specs.declared.limits.TheConstants.{NUMBER_LIMIT}
use Rattle.leg_lib_records.specs.Records.{MasterPinModel}
use Rattle.leg_lib_records.specs.Sound.{AreShapesWithin}
use Rattle.leg_flat.proofs.MoreMetal.{adds_at, adds_all}
use Rattle.leg_flat.proofs.MetalWalks.{pin_metal, pins_walk}
use Rattle.leg_flat.proofs.DrawnMetal.{master_drawn}
use Rattle.leg_flat.proofs.Registers.{kept_size}
use Rattle.leg_flat.proofs.metal.add_pins.Goals as goal

pub add_drawn-requires-clause-within : goal.add_drawn-requires-clause-within
add_drawn-requires-clause-within g c =
    let same : c.as_slice-pin-items.result.now ≡ c.args.master.now.pins = search rules in
    let there = read_at _ c.args.master.now.pins c.loop-k.k c.pin-item.result same c.loop-k-test.true c.pin-item.is in
    let shapes : c.as_slice.result.now ≡ c.pin-item.result.shapes = search rules in
    rw shapes (master_drawn c.pin-item.result.shapes
    (all_at (λ (pin : MasterPinModel). AreShapesWithin (2 * NUMBER_LIMIT) pin.shapes) c.args.master.now.pins c.loop-k.k c.pin-item.result
    c.requires.within.pins there))

pub loop-k-preserved : goal.loop-k-preserved
loop-k-preserved g c = λ design are of.
    let same : c.as_slice-pin-items.result.now ≡ c.args.master.now.pins = search rules in
    let there = read_at _ c.args.master.now.pins c.loop-k.k c.pin-item.result same c.loop-k-test.true c.pin-item.is in
    let shapes : c.as_slice.result.now ≡ c.pin-item.result.shapes = search rules in
    let size =
    kept_size c.width-width.result c.height-height.result c.args.master.now.size (rw (← c.master.view_is) c.width-width.ensures.is)
    (rw (← c.master.view_is) c.height-height.ensures.is) (rw (← c.master.view_is) c.width-width.ensures.proper) in
    let belongs = c.of_component_pin-belongs.ensures design c.args.master.now c.pin-item.result are of there (search rules) in
    adds_at (pin_metal design c.args.component c.args.place.now c.args.master.now.size) 0 c.args.master.now.pins c.args.shapes.now.items c.loop-k.k c.loop-k.k
    c.pin-item.result c.loop-k.shapes.items _ (sym (zero-add _)) there (c.loop-k.invariant design are of)
    (rw (size, shapes, belongs) at c.in_ok-add_drawn.ensures)

pub returns : goal.returns
returns g c = λ design are of.
    let same : c.as_slice-pin-items.result.now ≡ c.args.master.now.pins = search rules in
    let past = rw same at c.loop-k-test.false in
    adds_all (pin_metal design c.args.component c.args.place.now c.args.master.now.size) 0 c.args.master.now.pins c.args.shapes.now.items c.loop-k.k
    c.loop-k.shapes.items _ past (pins_walk _ _ _ _ _ _) (c.loop-k.invariant design are of)
