-- A count that goes no further than one beyond the limit of shapes (lefdef's own rule).
use Rattle.std.specs.Prelude.{ℕ, ◌+◌, min}
use Rattle.leg_design_records.specs.declared.limits.TheConstants.{PART_LIMIT}

-- this many more; what is beyond the limit is counted as one beyond it
abbrev pub counted : ℕ → ℕ → ℕ
counted count more = min (count + more) (PART_LIMIT + 1)
