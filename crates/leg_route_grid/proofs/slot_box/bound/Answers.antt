use Rattle.std.proofs.Common.{◌≡◌, ℕ, ◌+◌, ◌-◌, ◌<◌, ◌≤◌, min, length, get_or, sym, ap, ◌∙◌, arith}
use Rattle.leg_route_grid.specs.Steps.WalkBounds.{slot_bound, nearest}
use Rattle.leg_route_grid.proofs.Bounds.{bound_is, bound_small}
use Rattle.leg_route_grid.proofs.HullBoxes.{nowhere, no_hull, hull_before, hull_upto, hull_small, nearest_past, nearest_none_left}
use Rattle.leg_route_grid.proofs.slot_box.bound.Goals as goal
use Rattle.leg_route_grid.proofs.slot_box.bound.Goals.{then-boxes-test+else-least-gt0, else-boxes-test}

pub outside-requires : goal.outside-requires
outside-requires g c =
    let hull = get_or c.args.hulls.now (c.boxes.before - 1) no_hull in
    let is = hull_before c.args.boxes.now c.args.hulls.now c.boxes.before c.requires.hulls (omega (arith, c.boxes-test.true)) c.boxes.invariant.within in
    let small : slot_bound hull.ends c.slot-slot.result ≤ 50331648 =
    hull_small c.args.boxes.now (c.boxes.before - 1) hull is
    (omega (arith, c.boxes-test.true, c.boxes.invariant.within)) c.args.grid.now c.args.number c.slot-slot.result
    c.slot-slot.ensures.proper c.requires.boxes c.slot-slot.ensures.is in
    omega (arith, small)

pub overflow_sub-before : goal.overflow_sub-before
overflow_sub-before g c =
    let is = hull_before c.args.boxes.now c.args.hulls.now c.boxes.before c.requires.hulls (omega (arith, c.boxes-test.true)) c.boxes.invariant.within in
    let within : (get_or c.args.hulls.now (c.boxes.before - 1) no_hull).count ≤ c.boxes.before - 1 + 1 = is.within in
    omega (arith, within, c.boxes-test.true)

pub boxes-smaller-then-outside-least : goal.boxes-smaller-then-outside-least
boxes-smaller-then-outside-least g c =
    let is = hull_before c.args.boxes.now c.args.hulls.now c.boxes.before c.requires.hulls (omega (arith, c.boxes-test.true)) c.boxes.invariant.within in
    let some : 0 < (get_or c.args.hulls.now (c.boxes.before - 1) no_hull).count = is.some in
    omega (arith, some, c.boxes-test.true)

pub boxes-preserved-then-outside-least : goal.boxes-preserved-then-outside-least
boxes-preserved-then-outside-least g c =
    let boxes = c.args.boxes.now in
    let before : ℕ = c.boxes.before in
    let slot = c.slot-slot.result in
    let hull = get_or c.args.hulls.now (before - 1) no_hull in
    let some : 0 < before = omega (arith, c.boxes-test.true) in
    let within : before ≤ length boxes = c.boxes.invariant.within in
    let is = hull_before boxes c.args.hulls.now before c.requires.hulls (omega (arith, some)) within in
    let room : hull.count ≤ before - 1 + 1 = is.within in
    let far : c.boxes.least ≤ slot_bound hull.ends slot = omega (arith, c.outside.ensures, c.if-outside-least.true) in
    record {
      within = omega (arith, within);
      least = nearest_past boxes slot c.args.most c.boxes.least before hull.count (omega (arith, room, some)) within
          (λ j from below. let upto : slot_bound hull.ends slot ≤ slot_bound (get_or boxes j nowhere) slot = hull_upto boxes (before - 1) hull is
          (omega (arith, some, within)) slot j (omega (arith, below)) (omega (arith, from, some)) in omega (arith, upto, far))
          c.boxes.invariant.least;
    }

pub outside-requires-else-outside-least : goal.outside-requires-else-outside-least
outside-requires-else-outside-least g c =
    let last = c.boxes.before - 1 in
    let within : last < length c.args.boxes.now = omega (arith, c.boxes-test.true, c.boxes.invariant.within) in
    let small : slot_bound (get_or c.args.boxes.now last nowhere) c.slot-slot.result ≤ 50331648 =
    bound_small c.args.grid.now (get_or c.args.boxes.now last nowhere) c.args.number c.slot-slot.result c.slot-slot.ensures.proper
    (c.requires.boxes last nowhere within) c.slot-slot.ensures.is in
    omega (arith, small)

pub returns : goal.returns
returns g c =
    let boxes = c.args.boxes.now in
    let slot = c.slot-slot.result in
    let so_far = c.boxes.invariant.least in
    let all : c.boxes.least ≡ min c.args.most (nearest boxes slot) = elim c.boxes-test.branch [
      | then-boxes-test+else-least-gt0 w ↦ nearest_none_left boxes slot c.args.most c.boxes.least c.boxes.before (omega (arith, w.if-least-gt0.false)) so_far
      | else-boxes-test w ↦ let none : c.boxes.before ≡ 0 = omega (arith, w.boxes-test.false) in rw none at so_far
    ] in
    all ∙ sym (ap (min c.args.most) (bound_is c.args.grid.now boxes c.args.number slot c.slot-slot.ensures.is))
