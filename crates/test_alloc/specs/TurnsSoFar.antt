-- What came of the turns of a call so far (lefdef's own rule).
use Rattle.std.specs.Prelude.{Bool}

-- Whether the call has answered that memory ran out, and whether its last turn has come.
pub record TurnsSoFar : Type 0 where
  pub refusals : Bool
  pub ended : Bool
