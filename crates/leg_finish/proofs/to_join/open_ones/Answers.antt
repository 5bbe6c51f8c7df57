-- One slot more is kept, or it isn't.
use Rattle.std.proofs.Common.{ℕ, ◌<◌, length, get_or}
use Rattle.std.proofs.lemmas.List.Elements.{All-get_or, All-push}
use Rattle.leg_finish.proofs.to_join.open_ones.Goals as goal
use Rattle.leg_finish.proofs.to_join.open_ones.Goals.{then-admits+in_ok-push, else-admits}

pub loop-number-preserved : goal.loop-number-preserved
loop-number-preserved g c =
    let within = λ (n : ℕ). n < length c.args.slots.now in
    let numbers = c.args.numbers.now in
    let i = c.loop-number.number-index in
    let kept = c.loop-number.kept.items in
    elim c.if-admits.branch [
      | then-admits+in_ok-push w ↦
          rw (w.kept-is, w.in_ok-push.ensures.items)
          (All-push within kept (get_or numbers i 0) c.loop-number.invariant (All-get_or within numbers i 0 c.loop-number-test.true c.requires))
      | else-admits w ↦ rw w.kept-is c.loop-number.invariant
    ]
