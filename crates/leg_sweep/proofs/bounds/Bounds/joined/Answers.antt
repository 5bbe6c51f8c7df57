use Rattle.std.proofs.Common.{FitsSigned, w32, rules}
use Rattle.std.proofs.lemmas.Int.{to_z-of_z}
use Rattle.leg_sweep.proofs.bounds.Bounds.joined.Goals as goal

pub returns-clause-first : goal.returns-clause-first
returns-clause-first c =
    let sides = c.args.self.now in
    let x1 : FitsSigned w32 sides.x1 = search rules in
    let y1 : FitsSigned w32 sides.y1 = search rules in
    let x2 : FitsSigned w32 sides.x2 = search rules in
    let y2 : FitsSigned w32 sides.y2 = search rules in
    let left : FitsSigned w32 c.min.result = search rules in
    let bottom : FitsSigned w32 c.min-2.result = search rules in
    let right : FitsSigned w32 c.max.result = search rules in
    let top : FitsSigned w32 c.max-2.result = search rules in
    record {
      left = simp to_z-of_z (simp to_z-of_z at c.min.ensures.self_bound);
      bottom = simp to_z-of_z (simp to_z-of_z at c.min-2.ensures.self_bound);
      right = simp to_z-of_z (simp to_z-of_z at c.max.ensures.self_bound);
      top = simp to_z-of_z (simp to_z-of_z at c.max-2.ensures.self_bound);
    }

pub returns-clause-second : goal.returns-clause-second
returns-clause-second c =
    let sides = c.args.other.now in
    let x1 : FitsSigned w32 sides.x1 = search rules in
    let y1 : FitsSigned w32 sides.y1 = search rules in
    let x2 : FitsSigned w32 sides.x2 = search rules in
    let y2 : FitsSigned w32 sides.y2 = search rules in
    let left : FitsSigned w32 c.min.result = search rules in
    let bottom : FitsSigned w32 c.min-2.result = search rules in
    let right : FitsSigned w32 c.max.result = search rules in
    let top : FitsSigned w32 c.max-2.result = search rules in
    record {
      left = simp to_z-of_z (simp to_z-of_z at c.min.ensures.other_bound);
      bottom = simp to_z-of_z (simp to_z-of_z at c.min-2.ensures.other_bound);
      right = simp to_z-of_z (simp to_z-of_z at c.max.ensures.other_bound);
      top = simp to_z-of_z (simp to_z-of_z at c.max-2.ensures.other_bound);
    }
