use Rattle.std.proofs.Common.{FitsSigned, w64, rules}
use Rattle.std.proofs.lemmas.Int.{to_z-of_z}
use Rattle.leg_lib_records.specs.Measure.{ExtentModel}
use Rattle.leg_lib_records.specs.Scale.{IsSizeAt}
use Rattle.leg_lib_records.proofs.Sound.{extent_at}
use Rattle.leg_lib_records.proofs.scale.size_at.Goals as goal

pub new-requires : goal.new-requires
new-requires c =
    let wide : FitsSigned w64 c.in_ok-width.width = search rules in
    let high : FitsSigned w64 c.in_ok-height.height = search rules in
    let size : ExtentModel = record { width = c.in_ok-width.width; height = c.in_ok-height.height } in
    let at : IsSizeAt c.args.n c.args.size.now size = record {
      width = rw (← c.width.ensures.is) c.in_ok-width.ensures.ok;
      height = rw (← c.height.ensures.is) c.in_ok-height.ensures.ok;
    } in
    simp to_z-of_z (extent_at c.args.n c.args.size.now size c.requires.above c.width.ensures.proper at)
