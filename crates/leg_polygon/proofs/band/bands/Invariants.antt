use Rattle.std.proofs.Common.{◌≡◌, ◌∷◌, ◌++◌, drop}
use Rattle.leg_polygon.specs.Walk.{steps_from}
use Rattle.leg_polygon.specs.Slab.{bands}
use Rattle.leg_polygon.proofs.band.bands.Given as goal

abbrev pub invariant-bands : goal.invariant-bands
invariant-bands g l = l.bands.items ++ steps_from l.low (drop l.high-index l.rest) ≡ bands (l.initial.low ∷ l.rest)
