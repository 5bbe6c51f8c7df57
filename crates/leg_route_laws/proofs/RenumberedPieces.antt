-- Pieces that are joined stay so where their numbers move.
use Rattle.std.proofs.Common.{ℕ}
use Rattle.leg_rules.specs.Joins.Touch.{Joined}
use Rattle.leg_rules.specs.Joins.Touch.Joined.{itself, through}

module _ (Meet MeetThen To : ℕ → ℕ → Type 0) (carry : (a b a_then : ℕ) → To a a_then → Meet a b → (b_then : ℕ) × To b b_then × MeetThen a_then b_then) where
  pub joined_moved : (a b a_then : ℕ) → To a a_then → Joined Meet a b → (b_then : ℕ) × To b b_then × Joined MeetThen a_then b_then
  joined_moved a b a_then to itself = (a_then, to, itself)
  joined_moved a b a_then to (through {b = c} joined meet) =
      let first = joined_moved a c a_then to joined in
      let next = carry c b first.0 first.1 meet in
      (next.0, next.1, through first.2 next.2)
