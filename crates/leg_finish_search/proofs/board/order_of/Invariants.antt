-- The places so far are of the nets.
use Rattle.std.proofs.Common.{◌<◌, ℕ, All, length}
use Rattle.leg_finish_search.proofs.board.order_of.Given as goal

abbrev pub invariant-loop-place : goal.invariant-loop-place
invariant-loop-place g l = All (λ (turn : ℕ × ℕ). turn.1 < length l.nets) l.turns.items

abbrev pub invariant-loop-k : goal.invariant-loop-k
invariant-loop-k g l = record {
  turns : All (λ (turn : ℕ × ℕ). turn.1 < length l.nets) l.turns;
  order : All (λ place. place < length l.nets) l.order.items;
}
