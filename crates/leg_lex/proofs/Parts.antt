-- The parts of what is said.
use Rattle.std.proofs.Common.{◌≡◌, [], Option, None, Some, ap}
use Rattle.leg_lex.specs.Words.{Words}

words_of : {Y : Type 0} → Option (Y × Words) → Words
words_of None = []
words_of (Some said) = said.1

made_or : {Y : Type 0} → Y → Option (Y × Words) → Y
made_or y None = y
made_or y (Some said) = said.0

-- The same is said, so the same words are left.
pub rest_is : {Y : Type 0} (y z : Y) (rest after : Words) → ◌≡◌ {A = Option (Y × Words)} (Some (y, rest)) (Some (z, after)) → rest ≡ after
unfolding words_of
rest_is y z rest after same = ap words_of same

-- The same is said, so the same is made.
pub made_is : {Y : Type 0} (y z : Y) (rest after : Words) → ◌≡◌ {A = Option (Y × Words)} (Some (y, rest)) (Some (z, after)) → y ≡ z
unfolding made_or
made_is {Y} y z rest after same = ap (λ (said : Option (Y × Words)). made_or y said) same
