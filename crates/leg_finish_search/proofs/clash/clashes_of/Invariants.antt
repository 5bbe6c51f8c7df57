-- Clashes so far are with elements of the levels.
use Rattle.std.proofs.Common.{◌<◌, ℕ, All}
use Rattle.leg_finish_search.specs.declared.clash.Clash.{Clash}
use Rattle.leg_finish_search.specs.declared.clash.Part.{Part}
use Rattle.leg_finish_search.proofs.clash.clashes_of.Given as goal

abbrev pub invariant-loop-part : goal.invariant-loop-part
invariant-loop-part g l = (levels : ℕ) → All (λ (part : Part). part.level < levels) l.parts
    → All (λ (clash : Clash). clash.other_level < levels) l.clashes.items
