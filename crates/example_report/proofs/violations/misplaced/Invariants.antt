use Rattle.std.proofs.Common.{◌≡◌, ℕ, take}
use Rattle.std.specs.List.{list_any}
use Rattle.std.specs.Ordering.{nat_cmp}
use Rattle.std.specs.BTreeSet.{contains}
use Rattle.example_report.specs.Kinds.{names}
use Rattle.example_report.proofs.violations.misplaced.Given as goal

-- the set has the components that the violations so far name
abbrev pub invariant-loop-violation : goal.invariant-loop-violation
invariant-loop-violation g l =
    (c : ℕ) → contains nat_cmp l.found c ≡ list_any (names c) (take l.violation-index l.violations)
