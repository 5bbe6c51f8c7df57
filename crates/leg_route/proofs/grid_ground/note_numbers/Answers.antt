use Rattle.std.proofs.Common.{◌≡◌, ◌+◌, ◌-◌, ◌++◌, refl, ap, ◌∙◌, arith}
use Rattle.std.specs.List.{range_with_len}
use Rattle.leg_route.proofs.NewShapes.{none_yet, numbers_next}
use Rattle.leg_route.proofs.grid_ground.note_numbers.Goals as goal

pub loop-number-init : goal.loop-number-init
loop-number-init g c = record { begun = omega arith; within = omega arith; are = none_yet c.args.first c.args.numbers.now }

pub loop-number-preserved : goal.loop-number-preserved
loop-number-preserved g c =
    let begun = c.loop-number.invariant.begun in
    let below = c.loop-number-test.true in
    record {
      begun = omega (arith, begun);
      within = omega (arith, begun, below);
      are = numbers_next c.args.first c.loop-number.number (c.loop-number.number + 1) c.args.numbers.now c.loop-number.numbers c.push.new.self begun refl
          c.loop-number.invariant.are c.in_ok-push.ensures.pushed;
    }

pub returns : goal.returns
returns g c =
    let begun = c.loop-number.invariant.begun in
    let within = c.loop-number.invariant.within in
    let over = c.loop-number-test.false in
    let all : c.loop-number.number - c.args.first ≡ c.args.end - c.args.first = omega (arith, begun, within, over) in
    c.loop-number.invariant.are ∙ ap (λ n. c.args.numbers.now ++ range_with_len c.args.first n) all
