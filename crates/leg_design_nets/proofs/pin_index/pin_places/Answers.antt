-- One more pin.
use Rattle.std.proofs.Common.{◌≡◌, ℕ, ◌<◌, true, false, length, is_some, ap, ◌∙◌, arith}
use Rattle.std.proofs.lemmas.Grind.{common_steps}
use Rattle.leg_lib_records.specs.Records.{MasterPinModel}
use Rattle.leg_design_nets.specs.Steps.Pins.{place_in_table}
use Rattle.leg_design_nets.proofs.PinTables.{places_new, places_known}
use Rattle.leg_design_nets.proofs.pin_index.pin_places.Goals as goal
use Rattle.leg_design_nets.proofs.pin_index.pin_places.Goals.{then-not-contains_key+in_ok-insert, else-not-contains_key}

pub loop-k-preserved : goal.loop-k-preserved
loop-k-preserved g c =
    let pins = c.args.pins.now in
    let i : ℕ = c.loop-k.k in
    let x = c.index-pins-k.result in
    let less : i < length pins = omega arith in
    let named : c.bytes-name.result.now ≡ x.name = c.bytes-name.ensures ∙ ap (λ (p : MasterPinModel). p.name) c.pin.view_is in
    let asked : c.contains_key.result ≡ is_some (place_in_table c.loop-k.places c.bytes-name.result.now) = c.contains_key.ensures in
    elim c.if-not-contains_key.branch [
      | then-not-contains_key+in_ok-insert w ↦
          let test = w.if-not-contains_key.true in
          let absent : c.contains_key.result ≡ false = grind (arith, common_steps, test) in
          let new : is_some (place_in_table c.loop-k.places c.bytes-name.result.now) ≡ false = rw asked at absent in
          λ q. rw w.places-is (places_new c.bytes-name.result c.loop-k.places w.insert.new.self pins i x less c.index-pins-k.is named c.loop-k.invariant new
          w.in_ok-insert.ensures.updates q)
      | else-not-contains_key w ↦
          let test = w.if-not-contains_key.false in
          let present : c.contains_key.result ≡ true = grind (arith, common_steps, test) in
          let known : is_some (place_in_table c.loop-k.places x.name) ≡ true = rw named at (rw asked at present) in
          λ q. rw w.places-is (places_known c.loop-k.places pins i x less c.index-pins-k.is c.loop-k.invariant known q)
    ]
