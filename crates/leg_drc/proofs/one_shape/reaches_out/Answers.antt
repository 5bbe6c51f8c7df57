-- A rectangle reaches out of the die along one axis or the other.
use Rattle.std.proofs.Common.{◌↔◌, IsTrue, FitsSigned, w64, inl, inr, sym, ◌∙◌, rules}
use Rattle.std.proofs.lemmas.Bool.{false≢true}
use Rattle.std.proofs.lemmas.Int.{to_z-of_z}
use Rattle.leg_drc.specs.Steps.ShapeParts.{ReachesPast}
use Rattle.leg_drc.proofs.DieReach.{reach_of, out_by_x, out_by_y}
use Rattle.leg_drc.proofs.one_shape.reaches_out.Goals as goal

pub returns-then-reaches_past : goal.returns-then-reaches_past
returns-then-reaches_past c =
    let die = c.args.die.now in
    let rect = c.args.rect.now in
    let fits_die_x1 : FitsSigned w64 c.x1.result = search rules in
    let fits_die_x2 : FitsSigned w64 c.x2.result = search rules in
    let fits_x1 : FitsSigned w64 c.x1-2.result = search rules in
    let fits_x2 : FitsSigned w64 c.x2-2.result = search rules in
    let x : IsTrue c.reaches_past.result ↔ ReachesPast die.x1 die.x2 rect.x1 rect.x2 =
    rw (← c.x1.ensures.is, ← c.x2.ensures.is, ← c.x1-2.ensures.is, ← c.x2-2.ensures.is) (simp to_z-of_z at c.reaches_past.ensures) in
    (λ test. out_by_x die rect c.x1-2.ensures.proper (x.0 test), λ _. c.if-reaches_past.true)

pub returns-else-reaches_past : goal.returns-else-reaches_past
returns-else-reaches_past c =
    let die = c.args.die.now in
    let rect = c.args.rect.now in
    let fits_die_x1 : FitsSigned w64 c.x1.result = search rules in
    let fits_die_x2 : FitsSigned w64 c.x2.result = search rules in
    let fits_x1 : FitsSigned w64 c.x1-2.result = search rules in
    let fits_x2 : FitsSigned w64 c.x2-2.result = search rules in
    let x : IsTrue c.reaches_past.result ↔ ReachesPast die.x1 die.x2 rect.x1 rect.x2 =
    rw (← c.x1.ensures.is, ← c.x2.ensures.is, ← c.x1-2.ensures.is, ← c.x2-2.ensures.is) (simp to_z-of_z at c.reaches_past.ensures) in
    let fits_die_y1 : FitsSigned w64 c.y1.result = search rules in
    let fits_die_y2 : FitsSigned w64 c.y2.result = search rules in
    let fits_y1 : FitsSigned w64 c.y1-else-reaches_past.result = search rules in
    let fits_y2 : FitsSigned w64 c.y2-else-reaches_past.result = search rules in
    let y : IsTrue c.reaches_past-else-reaches_past.result ↔ ReachesPast die.y1 die.y2 rect.y1 rect.y2 =
    rw (← c.y1.ensures.is, ← c.y2.ensures.is, ← c.y1-else-reaches_past.ensures.is, ← c.y2-else-reaches_past.ensures.is)
    (simp to_z-of_z at c.reaches_past-else-reaches_past.ensures) in (
      λ test. out_by_y die rect c.x1-2.ensures.proper (y.0 test),
      λ out. elim (reach_of die rect out) [
        | inl by_x ↦ absurd (false≢true (sym c.if-reaches_past.false ∙ x.1 by_x))
        | inr by_y ↦ y.1 by_y
      ],
    )
