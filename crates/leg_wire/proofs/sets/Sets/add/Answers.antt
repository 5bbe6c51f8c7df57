-- The number is its own parent.
use Rattle.std.proofs.Common.{◌≡◌, ◌<◌, ◌^◌, ◌++◌, ◌∷◌, [], length, refl, arith}
use Rattle.leg_wire.specs.Steps.NumberSets.{roots_of}
use Rattle.leg_wire.proofs.SetRoots.{length-roots_of, roots_push}
use Rattle.leg_wire.proofs.SetUnions.{one_number_more, roots_low}
use Rattle.leg_wire.proofs.sets.Sets.add.Goals as goal

pub overflow_cast-number : goal.overflow_cast-number
overflow_cast-number g c =
    let parents = c.self.inside.parents.items in
    let few : length (roots_of parents) < 2 ^ 32 = rw (← c.self.view_is) at c.requires in
    let all = length-roots_of parents in
    let is = c.len-number.ensures in
    omega (arith, few, all, is)

pub returns-clause-added : goal.returns-clause-added
returns-clause-added g c =
    let parents = c.self.inside.parents.items in
    let is = c.len-number.ensures in
    let number : c.len-number.result ≡ length parents = omega (arith, is) in
    let pushed : c.push.new.self.items ≡ parents ++ length parents ∷ [] = rw (← number) c.in_ok-push.ensures.items in
    rw (← c.self.view_is, pushed, roots_push parents) (one_number_more parents c.self.invariant)

pub returns-clause-number : goal.returns-clause-number
returns-clause-number g c =
    let all = length-roots_of c.self.inside.parents.items in
    let is = c.len-number.ensures in
    rw (← c.self.view_is) (omega (arith, all, is))

pub returns-clause-is : goal.returns-clause-is
returns-clause-is g c =
    let parents = c.self.inside.parents.items in
    let is = c.len-number.ensures in
    let number : c.len-number.result ≡ length parents = omega (arith, is) in
    let pushed : c.push.new.self.items ≡ parents ++ length parents ∷ [] = rw (← number) c.in_ok-push.ensures.items in
    rw (← c.self.view_is, pushed, roots_push parents, length-roots_of parents) refl

pub returns-clause-low : goal.returns-clause-low
returns-clause-low g c = rw (← c.self.view_is) (roots_low c.self.inside.parents.items c.self.invariant)

pub returns-in_err-push-clause-low : goal.returns-in_err-push-clause-low
returns-in_err-push-clause-low g c = rw (← c.self.view_is) (roots_low c.self.inside.parents.items c.self.invariant)
