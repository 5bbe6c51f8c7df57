-- There are no two proofs that a reach bounds the spacing on each layer.
use Rattle.std.proofs.Common.{◌≤◌, ℕ}
use Rattle.std.specs.Coded.{le_prop}
use Rattle.leg_lib_records.specs.Records.{LibraryModel}
use Rattle.leg_rules.specs.Spacing.RequiredSpacing.{greatest_spacing_on}

pub one_bound : (library : LibraryModel) (reach : ℕ) → IsProp ((layer : ℕ) → greatest_spacing_on library layer ≤ reach)
one_bound library reach = hlevel le_prop
