use Rattle.std.proofs.Common.{◌≢◌, List}
use Rattle.std.proofs.lemmas.Result.{err_from_is_err_and}
use Rattle.leg_lib_records.specs.declared.scale_fault.ScaleKind.TheVariants.{Memory}
use Rattle.leg_lib_records.specs.declared.records.Shape.{Shape}
use Rattle.leg_lib_records.specs.Records.{MasterPinModel}
use Rattle.leg_lib_records.specs.Scale.{IsSpotAt, IsShapeAt, IsPinAt, OneForOne}
use Rattle.leg_lib_records.proofs.Scaling.{no_pins, no_obstructions}
use Rattle.leg_lib_records.proofs.scale_shapes.scaled_master.Goals as goal

pub returns-in_err-pins-clause-none : goal.returns-in_err-pins-clause-none
returns-in_err-pins-clause-none g c =
    let raw = c.args.master.now in
    let at : IsSpotAt c.args.n raw.origin c.in_ok-shift.shift = rw (← c.master.view_is) c.in_ok-shift.ensures.ok in
    let none : c.in_err-pins.field-0.0 ≢ Memory → (pins : List MasterPinModel) → ¬ OneForOne (IsPinAt c.args.n c.in_ok-shift.shift) raw.pins pins =
    rw (← c.master.view_is, ← c.as_slice.ensures) c.in_err-pins.ensures.none in
    let p = err_from_is_err_and c.from_residual-in_err-pins.result c.from_residual-in_err-pins.ensures.1 in
    rw (p.1, p.2) (λ not_memory. no_pins c.args.n raw c.in_ok-shift.shift at (none not_memory))

pub returns-in_err-obstructions-clause-none : goal.returns-in_err-obstructions-clause-none
returns-in_err-obstructions-clause-none g c =
    let raw = c.args.master.now in
    let at : IsSpotAt c.args.n raw.origin c.in_ok-shift.shift = rw (← c.master.view_is) c.in_ok-shift.ensures.ok in
    let none : c.in_err-obstructions.field-0.0 ≢ Memory → (shapes : List Shape)
    → ¬ OneForOne (IsShapeAt c.args.n c.in_ok-shift.shift) raw.obstructions shapes =
    rw (← c.master.view_is, ← c.as_slice-2.ensures) c.in_err-obstructions.ensures.none in
    let p = err_from_is_err_and c.from_residual-in_err-obstructions.result c.from_residual-in_err-obstructions.ensures.1 in
    rw (p.1, p.2) (λ not_memory. no_obstructions c.args.n raw c.in_ok-shift.shift at (none not_memory))
