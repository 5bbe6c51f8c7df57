use Rattle.std.proofs.Common.{◌≡◌, ◌≤◌, length, take, drop, flat_map}
use Rattle.leg_polygon.specs.Slab.{runs}
use Rattle.leg_polygon.specs.Steps.Sweep.{odd_upto}
use Rattle.leg_polygon.proofs.PassedEnds.{ArePassed}
use Rattle.leg_polygon.proofs.sweep.all_rows.Given as goal

abbrev pub invariant-bands : goal.invariant-bands
invariant-bands g l =
    ArePassed l.points l.rest l.edges.items (drop l.band-index l.bands)
    × (l.slabs.items ≡ flat_map (λ band. runs band (odd_upto l.points band.0)) (take l.band-index l.bands))
    × (length l.slabs.items ≤ l.limit)
