use Rattle.std.proofs.Common.{◌≡◌, Some, slice_get, refl, sym, zero-add}
use Rattle.leg_lemmas.proofs.Places.{read_at, all_at}
use Rattle.leg_design_records.specs.WellFormedParts.{IsArea}
use Rattle.leg_flat.proofs.MoreMetal.{adds_none, adds_one, adds_at, adds_all}
use Rattle.leg_flat.proofs.MetalWalks.{rect_metal, rects_walk}
use Rattle.leg_flat.proofs.OutlineRects.{rect_of_area}
use Rattle.leg_flat.proofs.metal.add_rects.Goals as goal

pub loop-rect-init : goal.loop-rect-init
loop-rect-init g c = adds_none c.args.shapes.now.items

pub loop-rect-preserved : goal.loop-rect-preserved
loop-rect-preserved g c =
    let rects = c.args.rects.now in
    let rect = c.rect-item.result in
    let i = c.loop-rect.rect-index in
    let there : slice_get rects i ≡ Some rect = read_at rects rects i rect refl c.loop-rect-test.true c.rect-item.is in
    let proper = rect_of_area rect (all_at IsArea rects i rect c.requires there) in
    adds_at (rect_metal c.args.layer c.args.belongs.now) 0 rects c.args.shapes.now.items i i rect c.loop-rect.shapes.items _
    (sym (zero-add _)) there c.loop-rect.invariant
    (adds_one _ _ _ _ c.in_ok-add_shape.ensures (record {
      layer = refl;
      proper = proper;
      points = λ p. (λ h. h, λ h. h);
      owner = refl;
      component = refl;
      piece = refl;
    }))

pub returns : goal.returns
returns g c =
    adds_all (rect_metal c.args.layer c.args.belongs.now) 0 c.args.rects.now c.args.shapes.now.items c.loop-rect.rect-index c.loop-rect.shapes.items _
    c.loop-rect-test.false (rects_walk _ _ _) c.loop-rect.invariant
