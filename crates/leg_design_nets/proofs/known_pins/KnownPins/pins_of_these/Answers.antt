-- The pin of one more component.
use Rattle.std.proofs.Common.{◌≡◌, ℕ, ◌<◌, length, get_or, sym, ◌∙◌, arith}
use Rattle.std.proofs.lemmas.List.{get_or_default}
use Rattle.leg_design_nets.proofs.PinsOfAll.{one_has, one_has_not}
use Rattle.leg_design_nets.proofs.known_pins.KnownPins.pins_of_these.Goals as goal
use Rattle.leg_design_nets.proofs.known_pins.KnownPins.pins_of_these.Goals.{in-Some+in_ok-push, in_default}

pub loop-number-preserved : goal.loop-number-preserved
loop-number-preserved g c =
    let numbers = c.args.numbers.now in
    let i : ℕ = c.loop-number.number-index in
    let n : ℕ = get_or numbers i 0 in
    let less : i < length numbers = omega arith in
    let same : n ≡ get_or numbers i n = get_or_default numbers i 0 n less in
    let found = c.loop-number.terminals.items in
    elim c.match-pin_of_numbered.branch [
      | in-Some+in_ok-push w ↦
          rw w.terminals-is (sym (one_has c.args.self.now c.args.name.now found w.push.new.self.items numbers i n w.in-Some.pin less same
          (sym c.pin_of_numbered.ensures.is ∙ w.in-Some.is) w.in_ok-push.ensures.items) ∙ c.loop-number.invariant)
      | in_default w ↦
          rw w.terminals-is (sym (one_has_not c.args.self.now c.args.name.now found numbers i n less same (sym c.pin_of_numbered.ensures.is ∙ w.in_default.is))
          ∙ c.loop-number.invariant)
    ]
