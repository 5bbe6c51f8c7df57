-- Clashes so far are with elements of the levels.
use Rattle.std.proofs.Common.{◌<◌, ℕ, All}
use Rattle.leg_finish_search.specs.declared.clash.Clash.{Clash}
use Rattle.leg_finish_search.specs.declared.clash.Part.{Part}
use Rattle.leg_finish_search.proofs.clash.push_clashes.Given as goal

abbrev pub invariant-loop-other : goal.invariant-loop-other
invariant-loop-other g l = (levels : ℕ) → All (λ (part : Part). part.level < levels) l.parts
    → All (λ (clash : Clash). clash.other_level < levels) l.fn.clashes.items → All (λ (clash : Clash). clash.other_level < levels) l.clashes.items
