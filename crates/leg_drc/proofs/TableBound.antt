-- There are no two proofs that reaches bound what tables ask for.
use Rattle.std.proofs.Common.{ℕ, List}
use Rattle.std.specs.Coded.{le_prop}
use Rattle.leg_drc_rules.specs.Records.{DeckModel}
use Rattle.leg_drc.specs.Steps.TableRule.{AreTableReaches}

pub one_bound : (deck : DeckModel) (reaches : List ℕ) → IsProp (AreTableReaches deck reaches)
one_bound deck reaches = hlevel le_prop
