-- How many components, and how many pins, a list of them may have. The list needs the two laws after the
-- definition.
use Rattle.std.proofs.Common.{ℕ, ◌≤◌, arith}
use Rattle.leg_design_records.specs.declared.limits.TheConstants.{ENTRY_LIMIT}

-- a section may have this many entries
abbrev pub AreEntries : ℕ → Type 0
AreEntries count = count ≤ ENTRY_LIMIT

pub none_are_entries : AreEntries 0
none_are_entries = omega arith

pub fewer_are_entries : (m n : ℕ) → m ≤ n → AreEntries n → AreEntries m
fewer_are_entries m n less few = omega (arith, less, few)
