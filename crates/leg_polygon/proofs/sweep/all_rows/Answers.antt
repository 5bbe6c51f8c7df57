use Rattle.std.proofs.Common.{map, rules}
use Rattle.leg_geom.specs.Plane.{PointModel}
use Rattle.leg_polygon.specs.Slab.{runs}
use Rattle.leg_polygon.specs.Steps.Sweep.{odd_upto}
use Rattle.leg_polygon.proofs.NumberFolds.{odd_rises}
use Rattle.leg_polygon.proofs.PassedEnds.{left_climb, row_passed, row_edges, row_kept, row_over}
use Rattle.leg_polygon.proofs.sweep.all_rows.Goals as goal

pub parted-requires : goal.parted-requires
parted-requires g c = left_climb _ _ _ _ c.requires.climb c.bands.invariant.0

pub next_edges-requires : goal.next_edges-requires
next_edges-requires g c =
    record { rising = rw (c.deref.ensures.value, c.bands.invariant.0.odd) (odd_rises (map (λ (p : PointModel). p.x) c.bands.invariant.0.passed)) }

pub returns-in_err-add_row-clause-many : goal.returns-in_err-add_row-clause-many
returns-in_err-add_row-clause-many g c said =
    let made_is = rw c.deref.ensures.value at c.in_ok-edges.ensures in
    let made = row_edges _ _ _ _ _ _ _ _ _ c.bands-test.true c.band-item.is c.bands.invariant.0 c.parted.ensures made_is in
    let over = rw (c.deref-in-bands.ensures.value, made) at (c.in_err-add_row.ensures.many (search rules)) in
    row_over (λ band. runs band (odd_upto c.args.points.now band.0)) _ _ _ _ c.bands-test.true c.band-item.is c.bands.invariant.1 _ over

pub bands-preserved : goal.bands-preserved
bands-preserved g c =
    let made_is = rw c.deref.ensures.value at c.in_ok-edges.ensures in
    let made = row_edges _ _ _ _ _ _ _ _ _ c.bands-test.true c.band-item.is c.bands.invariant.0 c.parted.ensures made_is in
    let added = rw (c.deref-in-bands.ensures.value, made) at c.in_ok-add_row.ensures.added in (
      row_passed _ _ _ _ _ _ _ _ _ c.bands-test.true c.band-item.is c.bands.invariant.0 c.parted.ensures made_is c.requires.stack,
      row_kept (λ band. runs band (odd_upto c.args.points.now band.0)) _ _ _ _ c.bands-test.true c.band-item.is c.bands.invariant.1 _ added,
      c.in_ok-add_row.ensures.within,
    )
