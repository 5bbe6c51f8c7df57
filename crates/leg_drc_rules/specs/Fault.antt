-- For what rules are refused (lefdef's own rule).
use Rattle.std.specs.Prelude.{◌≡◌, ◌⊎◌}
use Rattle.leg_lex.specs.declared.read_fault.FaultKind.{FaultKind}
use Rattle.leg_lex.specs.declared.read_fault.FaultKind.TheVariants.{BadNumber, TooLarge, Memory}

-- a word is no number or a number doesn't fit, or else memory ran out
abbrev pub IsNumberOrMemory : FaultKind → Type 0
IsNumberOrMemory kind = (kind ≡ BadNumber) ⊎ ((kind ≡ TooLarge) ⊎ (kind ≡ Memory))
