-- The keys of the movable components so far.
use Rattle.leg_legal.specs.Steps.TurnKeys.{AreTurnKeysBelow}
use Rattle.leg_legal.proofs.turns.turn_keys.Given as goal

abbrev pub invariant-loop-i : goal.invariant-loop-i
invariant-loop-i g l = AreTurnKeysBelow l.design l.i l.keys.items
