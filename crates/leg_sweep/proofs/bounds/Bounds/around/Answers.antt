use Rattle.std.proofs.Common.{◌≡◌, w32, ap, ◌∙◌, arith}
use Rattle.std.proofs.lemmas.Int.{ints, to_z-of_z}
use Rattle.leg_sweep.specs.declared.bounds.Bounds.{Bounds}
use Rattle.leg_sweep.specs.Steps.Bounds.{step_of}
use Rattle.leg_sweep.proofs.bounds.Bounds.around.Goals as goal

same_bounds : (a b : Bounds) → a.x1 ≡ b.x1 → a.y1 ≡ b.y1 → a.x2 ≡ b.x2 → a.y2 ≡ b.y2 → a ≡ b
same_bounds a b left bottom right top = λ i. record { x1 = left i; y1 = bottom i; x2 = right i; y2 = top i }

pub returns-clause-is : goal.returns-clause-is
returns-clause-is c =
    let proper = c.x1.ensures.proper in
    same_bounds _ _
    (to_z-of_z w32 c.step_of.result (record { sfits = c.step_of.type_inv }) ∙ c.step_of.ensures
    ∙ ap step_of (omega (arith, ints, proper.x1, c.x1.ensures.is, c.from-reach.ensures)))
    (to_z-of_z w32 c.step_of-2.result (record { sfits = c.step_of-2.type_inv }) ∙ c.step_of-2.ensures
    ∙ ap step_of (omega (arith, ints, proper.y1, c.y1.ensures.is, c.from-reach.ensures)))
    (to_z-of_z w32 c.step_of-3.result (record { sfits = c.step_of-3.type_inv }) ∙ c.step_of-3.ensures
    ∙ ap step_of (omega (arith, ints, proper.x2, c.x2.ensures.is, c.from-reach.ensures)))
    (to_z-of_z w32 c.step_of-4.result (record { sfits = c.step_of-4.type_inv }) ∙ c.step_of-4.ensures
    ∙ ap step_of (omega (arith, ints, proper.y2, c.y2.ensures.is, c.from-reach.ensures)))
