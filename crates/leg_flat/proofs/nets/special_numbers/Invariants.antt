use Rattle.std.proofs.Common.{◌≡◌, ℕ, ◌<◌, length, Some, slice_get}
use Rattle.leg_design_records.specs.Records.{NetModel}
use Rattle.leg_rules.specs.Metal.Nets.{number_of_special}
use Rattle.leg_flat.proofs.nets.special_numbers.Given as goal

abbrev pub invariant-loop-k : goal.invariant-loop-k
invariant-loop-k g l = record {
  count : length l.numbers.items ≡ l.k;
  each : (j : ℕ) (net : NetModel) → j < l.k → slice_get l.index.special j ≡ Some net → slice_get l.numbers.items j ≡ Some (number_of_special l.index j net);
}
