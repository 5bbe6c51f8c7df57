use Rattle.std.proofs.Common.{◌≡◌, ℕ, ◌+◌, ◌-◌, ◌<◌, ◌≤◌, min, length, get_or, arith}
use Rattle.std.proofs.Math.Nat.{min-le_left, min-le_right}
use Rattle.leg_route_grid.specs.Steps.WalkBounds.{slot_bound}
use Rattle.leg_route_grid.proofs.HullBoxes.{nowhere, no_hull, hull_before, hull_upto, upto_past}
use Rattle.leg_route_grid.proofs.slot_box.bound_of_box.Goals as goal
use Rattle.leg_route_grid.proofs.slot_box.bound_of_box.Goals.{then-boxes-test+else-least-gt0, else-boxes-test}

pub overflow_sub-before : goal.overflow_sub-before
overflow_sub-before c =
    let is = hull_before c.args.boxes.now c.args.hulls.now c.boxes.before c.requires.hulls (omega (arith, c.boxes-test.true)) c.boxes.invariant.within in
    let within : (get_or c.args.hulls.now (c.boxes.before - 1) no_hull).count ≤ c.boxes.before - 1 + 1 = is.within in
    omega (arith, within, c.boxes-test.true)

pub boxes-smaller-then-apart-least : goal.boxes-smaller-then-apart-least
boxes-smaller-then-apart-least c =
    let is = hull_before c.args.boxes.now c.args.hulls.now c.boxes.before c.requires.hulls (omega (arith, c.boxes-test.true)) c.boxes.invariant.within in
    let some : 0 < (get_or c.args.hulls.now (c.boxes.before - 1) no_hull).count = is.some in
    omega (arith, some, c.boxes-test.true)

pub boxes-preserved-then-apart-least : goal.boxes-preserved-then-apart-least
boxes-preserved-then-apart-least c =
    let boxes = c.args.boxes.now in
    let before : ℕ = c.boxes.before in
    let hull = get_or c.args.hulls.now (before - 1) no_hull in
    let some : 0 < before = omega (arith, c.boxes-test.true) in
    let within : before ≤ length boxes = c.boxes.invariant.within in
    let is = hull_before boxes c.args.hulls.now before c.requires.hulls (omega (arith, some)) within in
    let room : hull.count ≤ before - 1 + 1 = is.within in
    record {
      within = omega (arith, within);
      most = c.boxes.invariant.most;
      least = λ s inside.
          let upto_hull = c.apart.ensures s inside in
          let far : c.boxes.least ≤ slot_bound hull.ends s = omega (arith, upto_hull, c.if-apart-least.true) in
          upto_past boxes s c.boxes.least before hull.count (omega (arith, room, some)) within
          (λ j from below. let upto : slot_bound hull.ends s ≤ slot_bound (get_or boxes j nowhere) s = hull_upto boxes (before - 1) hull is
          (omega (arith, some, within)) s j (omega (arith, below)) (omega (arith, from, some)) in omega (arith, upto, far))
          (c.boxes.invariant.least s inside);
    }

pub boxes-preserved : goal.boxes-preserved
boxes-preserved c =
    let boxes = c.args.boxes.now in
    let before : ℕ = c.boxes.before in
    let box = c.apart-else-apart-least in
    let some : 0 < before = omega (arith, c.boxes-test.true) in
    let within : before ≤ length boxes = c.boxes.invariant.within in
    let most = c.boxes.invariant.most in
    let now : ℕ = c.min-least-else-apart-least.result in
    let is : now ≡ min c.boxes.least box.result = c.min-least-else-apart-least.ensures in
    let first = min-le_left c.boxes.least box.result in
    let second = min-le_right c.boxes.least box.result in
    let upto : now ≤ c.boxes.least = omega (arith, is, first) in
    let upto_box : now ≤ box.result = omega (arith, is, second) in
    record {
      within = omega (arith, within);
      most = omega (arith, upto, most);
      least = λ s inside.
          let near = box.ensures s inside in
          let rest = c.boxes.invariant.least s inside in
          upto_past boxes s now before 1 (omega (arith, some)) within
          (λ j from below. let same : j ≡ before - 1 = omega (arith, from, below) in
          rw same (omega (arith, upto_box, near)))
          (omega (arith, upto, rest));
    }

pub returns : goal.returns
returns c =
    let boxes = c.args.boxes.now in
    record {
      most = c.boxes.invariant.most;
      least = λ s inside. elim c.boxes-test.branch [
        | then-boxes-test+else-least-gt0 w ↦ omega (arith, w.if-least-gt0.false)
        | else-boxes-test w ↦
            let none : c.boxes.before ≡ 0 = omega (arith, w.boxes-test.false) in
            rw none at (c.boxes.invariant.least s inside)
      ];
    }
