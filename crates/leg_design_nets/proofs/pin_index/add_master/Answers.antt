-- One more pin.
use Rattle.std.proofs.Common.{◌≡◌, List, ℕ, ◌<◌, length, true, ap, ◌∙◌, sym, subst, ⊎_elim, arith}
use Rattle.leg_lib_records.specs.Records.{MasterPinModel}
use Rattle.leg_design_nets.specs.Steps.Pins.{is_in, numbers_under}
use Rattle.leg_design_nets.proofs.PinTables.{names_taken, some_place}
use Rattle.leg_design_nets.proofs.pin_index.add_master.Goals as goal

pub loop-pin-preserved : goal.loop-pin-preserved
loop-pin-preserved g c =
    let pins = c.args.pins.now in
    let i : ℕ = c.loop-pin.pin-index in
    let x = c.pin-item.result in
    let less : i < length pins = omega arith in
    let named : c.bytes.result.now ≡ x.name = c.bytes.ensures ∙ ap (λ (p : MasterPinModel). p.name) c.pin.view_is in
    record {
      added = λ name there.
          ⊎_elim
          (λ before. c.in_ok-add.ensures.kept name c.args.number (c.loop-pin.invariant.added name before))
          (λ (same : name ≡ x.name). subst (λ (q : List ℕ). is_in c.args.number (numbers_under c.add.new.self q) ≡ true)
          (named ∙ sym same) c.in_ok-add.ensures.added)
          (some_place name x.name _ (rw (names_taken pins i x less c.pin-item.is) at there));
      kept = λ name m there. c.in_ok-add.ensures.kept name m (c.loop-pin.invariant.kept name m there);
    }
