use Rattle.std.proofs.Common.{◌≡◌, Some, None, slice_get, sym}
use Rattle.std.proofs.lemmas.Result.{on_ok_weaker}
use Rattle.leg_lemmas.proofs.Places.{all_at}
use Rattle.leg_lib_records.specs.Sound.{IsSoundMaster}
use Rattle.leg_flat.specs.Steps.AddedMetal.{master_of}
use Rattle.leg_flat.proofs.MoreMetal.{adds_none, adds_same, adds_both}
use Rattle.leg_flat.proofs.MetalWalks.{no_place, no_master}
use Rattle.leg_flat.proofs.metal.add_component.Goals as goal

pub returns-in_default : goal.returns-in_default
returns-in_default g c =
    let none : slice_get c.args.design.now.library.masters c.args.component.now.master ≡ None =
    sym (rw c.in_default.is-1 at c.master_numbered-master.ensures) in
    adds_same _ _ _ _ (no_master _ _ _ _ none) (adds_none c.args.shapes.now.items)

pub returns-in_default-2 : goal.returns-in_default-2
returns-in_default-2 g c = adds_same _ _ _ _ (no_place _ _ _ _ c.in_default.is-0) (adds_none c.args.shapes.now.items)

pub add_pins-requires-clause-within : goal.add_pins-requires-clause-within
add_pins-requires-clause-within g c =
    let there : slice_get c.args.design.now.library.masters c.args.component.now.master ≡ Some c.in-Some-Some.master.now =
    sym (rw c.in-Some-Some.is-1 at c.master_numbered-master.ensures) in
    all_at IsSoundMaster c.args.design.now.library.masters c.args.component.now.master c.in-Some-Some.master.now c.requires.sound.masters there

pub add_obstructions-requires-clause-within : goal.add_obstructions-requires-clause-within
add_obstructions-requires-clause-within g c =
    let there : slice_get c.args.design.now.library.masters c.args.component.now.master ≡ Some c.in-Some-Some.master.now =
    sym (rw c.in-Some-Some.is-1 at c.master_numbered-master.ensures) in
    all_at IsSoundMaster c.args.design.now.library.masters c.args.component.now.master c.in-Some-Some.master.now c.requires.sound.masters there

pub returns : goal.returns
returns g c =
    let there : slice_get c.args.design.now.library.masters c.args.component.now.master ≡ Some c.in-Some-Some.master.now =
    sym (rw c.in-Some-Some.is-1 at c.master_numbered-master.ensures) in
    let of : master_of c.args.design.now c.args.number ≡ Some c.in-Some-Some.master.now = rw c.requires.there there in
    rw (c.in-Some-Some.is-0, there)
    (on_ok_weaker c.add_obstructions.result (λ added. adds_both _ _ c.args.shapes.now.items _ c.add_obstructions.new.shapes.items
    (c.in_ok-add_pins.ensures c.args.design.now c.requires.nets of) added) c.add_obstructions.ensures)
