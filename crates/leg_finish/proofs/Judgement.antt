-- What lists of violations and of open nets tell of a flat: whether they are empty.
use Rattle.std.proofs.Common.{◌≡◌, ◌<◌, ℕ, List, [], ◌∷◌, length, arith}
use Rattle.std.proofs.lemmas.List.Elements.{All-head}
use Rattle.leg_lib_records.specs.Records.{LibraryModel}
use Rattle.leg_design_records.specs.declared.fault.Fault.{Fault}
use Rattle.leg_design_records.specs.Records.{DesignModel}
use Rattle.leg_design_records.specs.Violation.{IsListOf}
use Rattle.leg_rules.specs.Metal.Flat.{FlatModel}
use Rattle.leg_rules.specs.Joins.Violations.{IsOpenNet}
use Rattle.leg_rules.specs.Spacing.Violations.{IsSpacingViolation}
use Rattle.leg_route_laws.specs.CleanWire.{HasNoSpacingFault}
use Rattle.leg_finish.specs.declared.groups.OpenNet.{OpenNet}
use Rattle.leg_finish.specs.Steps.OpenNets.{IsOpenWith, AreOpenNets}

pub no_fault : (library : LibraryModel) (flat : FlatModel) (faults : List Fault) → IsListOf (IsSpacingViolation library flat) faults → length faults ≡ 0
    → HasNoSpacingFault library flat
no_fault library flat faults list none fault holds = let has = list.all fault holds in let low = has.1 in omega (arith, low, none)

pub some_fault : (library : LibraryModel) (flat : FlatModel) (faults : List Fault) → IsListOf (IsSpacingViolation library flat) faults → 0 < length faults
    → ¬ HasNoSpacingFault library flat
some_fault library flat [] list some none = omega (arith, some)
some_fault library flat (fault ∷ faults) list some none = none fault (All-head (IsSpacingViolation library flat) fault faults list.each)

module _ {A : Type 0} (design : DesignModel) (flat : FlatModel) where
  pub none_open : (nets : List (OpenNet A)) → AreOpenNets design flat nets → length nets ≡ 0 → (n : ℕ) → ¬ IsOpenNet design flat n
  none_open nets are none n is_open = let has = are.all n is_open in let low = has.2 in omega (arith, low, none)

  pub some_open : (nets : List (OpenNet A)) → AreOpenNets design flat nets → 0 < length nets → ¬ ((n : ℕ) → ¬ IsOpenNet design flat n)
  some_open [] are some none = omega (arith, some)
  some_open (net ∷ nets) are some none = none net.net (All-head (IsOpenWith design flat) net nets are.each).is_open
