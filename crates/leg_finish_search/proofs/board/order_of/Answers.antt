use Rattle.std.proofs.Common.{◌<◌, ℕ, length}
use Rattle.std.proofs.lemmas.List.Elements.{All-push, All-nil, All-get_or}
use Rattle.std.proofs.lemmas.List.Sorted.{All-permutation}
use Rattle.leg_finish_search.proofs.board.order_of.Goals as goal

pub loop-k-init : goal.loop-k-init
loop-k-init g c = record {
  turns = rw c.as_slice-turns.ensures.value (All-permutation
      (λ (turn : ℕ × ℕ). turn.1 < length c.args.nets.now) _ _ c.sort_unstable.ensures.permutation c.loop-place.invariant);
  order = rw c.in_ok-order.ensures.items (All-nil (λ place. place < length c.args.nets.now));
}

pub loop-k-preserved : goal.loop-k-preserved
loop-k-preserved g c = record {
  turns = c.loop-k.invariant.turns;
  order = rw c.in_ok-push-2.ensures.items (All-push (λ place. place < length c.args.nets.now) c.loop-k.order.items _ c.loop-k.invariant.order
      (All-get_or (λ (turn : ℕ × ℕ). turn.1 < length c.args.nets.now) c.as_slice-turns.result.now c.loop-k.k _ c.loop-k-test.true c.loop-k.invariant.turns));
}
