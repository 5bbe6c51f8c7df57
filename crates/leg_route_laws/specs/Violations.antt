-- Whether two shapes of a flat are short, or too near one another, whichever they are.
use Rattle.std.specs.Prelude.{ℕ}
use Rattle.leg_lib_records.specs.Records.{LibraryModel}
use Rattle.leg_design_records.specs.declared.fault.Fault.TheVariants.{Short, TooNear}
use Rattle.leg_rules.specs.Metal.Flat.{FlatModel}
use Rattle.leg_rules.specs.Spacing.Violations.{IsSpacingViolation}

-- two shapes of the flat are short, whichever they are
abbrev pub HasShort : LibraryModel → FlatModel → Type 0
HasShort library flat = (i : ℕ) × (j : ℕ) × IsSpacingViolation library flat (Short i j)

-- two shapes of the flat are too near one another
abbrev pub HasTooNear : LibraryModel → FlatModel → Type 0
HasTooNear library flat = (i : ℕ) × (j : ℕ) × IsSpacingViolation library flat (TooNear i j)
