-- ExtentModel of a LEF that have a fault in database units.
use Rattle.std.specs.Prelude.{◌≡◌, ◌≢◌, ℕ, ℤ, pos, List, int_rem, Ok}
use Rattle.leg_lex.specs.Number.{micron_of, IsNumber, IsUnits}
use Rattle.leg_lib_records.specs.declared.scale_fault.ScaleKind.{ScaleKind}
use Rattle.leg_lib_records.specs.declared.scale_fault.ScaleKind.TheVariants.{NotOnUnit, TooLarge, OddWidth, Memory}

-- the word is a length of this many units a micron that isn't a whole number of them, is too large, or is odd
abbrev pub HasFault : ScaleKind → ℕ → List ℕ → Type 0
HasFault NotOnUnit units word = (m : ℤ) × (micron_of word ≡ Ok m) × ((u : ℤ) → ¬ IsUnits m units u)
HasFault TooLarge units word = (m : ℤ) × (micron_of word ≡ Ok m) × ((u : ℤ) × IsUnits m units u × ¬ IsNumber u)
HasFault OddWidth units word = (m : ℤ) × (micron_of word ≡ Ok m) × ((u : ℤ) × IsUnits m units u × (int_rem u (pos 2) ≢ pos 0))
HasFault Memory units word = ⊥
