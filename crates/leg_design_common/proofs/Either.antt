-- What holds of the first form, and of the other where the first says nothing.
use Rattle.std.proofs.Common.{ℕ, Option, None, Some}
use Rattle.std.specs.Option.{option_or}
use Rattle.leg_lex.specs.Words.{Words}
use Rattle.leg_lex.proofs.Until.{Below}
use Rattle.leg_design_common.proofs.Gives.{Gives}

pub below_either : {Y : Type 0} {n : ℕ} (first other : Option (Y × Words)) → Below n first → Below n other → Below n (option_or first other)
below_either None other one two = two
below_either (Some x) other one two = one

pub gives_either : {Y : Type 0} {P : Y → Type 0} (first other : Option Y) → Gives P first → Gives P other → Gives P (option_or first other)
gives_either None other one two = two
gives_either (Some x) other one two = one
