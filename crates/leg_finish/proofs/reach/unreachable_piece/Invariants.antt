-- The pieces so far can be reached.
use Rattle.std.proofs.Common.{◌≡◌, ℕ, ◌<◌, length}
use Rattle.leg_rules.specs.Finish.Reach.{IsUnreachable}
use Rattle.leg_finish.proofs.reach.unreachable_piece.Given as goal

abbrev pub invariant-loop-piece : goal.invariant-loop-piece
invariant-loop-piece g l = record {
  none : (k : ℕ) → k < l.piece → ¬ IsUnreachable l.grid.design l.flat l.net.net k;
  count : length l.marks ≡ length l.fn.marks;
}
