use Rattle.std.proofs.Common.{FitsSigned, w64, rules, ◌+ℤ◌, arith}
use Rattle.std.proofs.lemmas.Int.{ints, to_z-of_z}
use Rattle.leg_lex.specs.Number.{IsNumber}
use Rattle.leg_lib_records.proofs.Scaling.{shifted}
use Rattle.leg_lib_records.proofs.scale_shapes.Shift.x_at.Goals as goal

pub returns-clause-ok : goal.returns-clause-ok
returns-clause-ok c =
    let units = c.in_ok-length_at.field-0 in
    let shift = c.self.inside.x in
    let at = c.in_ok-length_at.ensures.ok in
    let near : IsNumber shift = c.self.invariant.0 in
    let fits : FitsSigned w64 units = search rules in
    let shift_fits : FitsSigned w64 shift = search rules in
    let moved_fits : FitsSigned w64 (units +ℤ shift) = omega (arith, ints, near, at.within) in
    rw (← c.self.view_is) (simp to_z-of_z (shifted c.args.n c.args.x units shift at))
