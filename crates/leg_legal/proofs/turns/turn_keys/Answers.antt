-- A movable component has one more key, and one that stays has none.
use Rattle.std.proofs.Common.{◌≡◌, length, arith}
use Rattle.std.proofs.lemmas.Bool.{false≢true}
use Rattle.leg_legal.proofs.TurnKeyOrder.{keys_none, keys_more, keys_skip}
use Rattle.leg_legal.proofs.turns.turn_keys.Goals as goal
use Rattle.leg_legal.proofs.turns.turn_keys.Goals.{then-is_movable+in_ok-push, else-is_movable}

pub loop-i-init : goal.loop-i-init
loop-i-init g c = rw c.new-keys.ensures.items (keys_none c.args.design.now)

pub loop-i-preserved : goal.loop-i-preserved
loop-i-preserved g c =
    elim c.if-is_movable.branch [
      | then-is_movable+in_ok-push w ↦
          rw (w.keys-is, w.in_ok-push.ensures.items)
          (keys_more c.args.design.now c.loop-i.keys.items c.loop-i.i w.turn_key.result w.turn_key.ensures.is w.turn_key.ensures.number c.loop-i.invariant)
      | else-is_movable w ↦
          rw w.keys-is
          (keys_skip c.args.design.now c.loop-i.keys.items c.loop-i.i (λ m. false≢true (w.if-is_movable.ensures.1 m)) c.loop-i.invariant)
    ]

pub returns : goal.returns
returns g c =
    let last : c.loop-i.i ≡ length c.args.design.now.components = rw (← c.components-i-end.ensures.is) (omega arith) in
    rw (← last) c.loop-i.invariant
