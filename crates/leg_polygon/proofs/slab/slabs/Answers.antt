use Rattle.std.proofs.Common.{◌≡◌, ◌<◌, Err, IsErrOf, length, map, rules, sym, ap, ◌∙◌, arith}
use Rattle.std.proofs.lemmas.Bool.Decides.{nat_tests}
use Rattle.std.proofs.lemmas.Result.{err_from_is_err_and}
use Rattle.leg_geom.specs.Plane.{PointModel}
use Rattle.leg_polygon.specs.declared.fault.PolygonFault.TheVariants.{TooMany}
use Rattle.leg_polygon.specs.Slab.{heights, slabs}
use Rattle.leg_polygon.proofs.NumberFolds.{ordered_rises}
use Rattle.leg_polygon.proofs.Bands.{bands_stack}
use Rattle.leg_polygon.proofs.SlabLimit.{none_over, none_there}
use Rattle.leg_polygon.proofs.slab.slabs.Goals as goal

pub all_bands-requires : goal.all_bands-requires
all_bands-requires g c = record {
  stack =
      rw (c.deref-7.ensures.value, c.in_ok-bands.ensures, c.deref-5.ensures.value, c.in_ok-heights.ensures)
      (bands_stack (heights c.deref-4.result.now) (ordered_rises (map (λ (p : PointModel). p.y) c.deref-4.result.now)));
}

pub returns-in_err-slabs-clause-none : goal.returns-in_err-slabs-clause-none
returns-in_err-slabs-clause-none g c =
    let p = err_from_is_err_and c.from_residual-in_err-slabs.result c.from_residual-in_err-slabs.ensures.1 in
    let over : IsErrOf c.from_residual-in_err-slabs.result TooMany → c.args.limit < length (slabs c.args.points.now) = search rules in
    rw (p.1, p.2) (λ other. none_over c.args.limit c.args.points.now (over (p.1 ∙ ap Err (p.2 ∙ c.in_err-slabs.ensures.fault other))))

pub returns-then-is_empty-clause-empty : goal.returns-then-is_empty-clause-empty
returns-then-is_empty-clause-empty g c said =
    let none : length c.in_ok-slabs.slabs.items ≡ 0 =
    grind (arith, nat_tests, c.is_empty.ensures, c.if-is_empty.true, c.in_ok-slabs.slabs.ok.0) in
    let same : c.in_ok-slabs.slabs.items ≡ slabs c.args.points.now = search rules in
    sym same ∙ none_there c.in_ok-slabs.slabs.items none
