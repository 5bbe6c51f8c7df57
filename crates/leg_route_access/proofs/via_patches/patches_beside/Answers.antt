use Rattle.std.proofs.Common.{◌↔◌, List, All, sym, subst}
use Rattle.std.proofs.lemmas.List.{take_all}
use Rattle.leg_lib_records.specs.declared.records.Shape.{Shape}
use Rattle.leg_wire_spacing.specs.Access.{Admits, alone}
use Rattle.leg_route_access.proofs.OpenVias.{IsOpenShape, all_and_more}
use Rattle.leg_route_access.proofs.via_patches.patches_beside.Goals as goal

pub loop-patch-preserved : goal.loop-patch-preserved
loop-patch-preserved g c net =
    let more =
    all_and_more (IsOpenShape c.args.design.now (alone c.args.shape.now) net c.args.at.now) c.args.patches.now c.loop-patch.patch-index c.patch-item.result
    c.loop-patch-test.true (sym c.patch-item.is) in
    let before = c.loop-patch.invariant net in
    let one = c.patch_beside.ensures net in
    let both = c.and-access.ensures net in (
      λ admits. let each = both.0 admits in more.1 (before.0 each.0, one.0 each.1),
      λ all. let each = more.0 all in both.1 (before.1 each.0, one.1 each.1),
    )

pub returns : goal.returns
returns g c net =
    let P : List Shape → Type 0 =
    λ patches. Admits c.loop-patch.access net ↔ All (IsOpenShape c.args.design.now (alone c.args.shape.now) net c.args.at.now) patches in
    subst P (take_all c.loop-patch.patch-index c.args.patches.now c.loop-patch-test.false) (c.loop-patch.invariant net)
