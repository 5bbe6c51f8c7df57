-- All numbers have their roots.
use Rattle.std.proofs.Common.{◌≡◌, refl, arith}
use Rattle.leg_wire.specs.Steps.NumberSets.{AreParents, roots_of}
use Rattle.leg_wire.proofs.SetRoots.{roots_begun, roots_done}
use Rattle.leg_wire.proofs.SetUnions.{firsts_are}
use Rattle.leg_wire.proofs.sets.Sets.roots.Goals as goal

pub loop-parent-init : goal.loop-parent-init
loop-parent-init g c = rw c.in_ok-roots.ensures.items (roots_begun c.as_slice-parents.result.now)

pub returns-clause-are : goal.returns-clause-are
returns-clause-are g c =
    let parents = c.as_slice-parents.result.now in
    let done : c.loop-parent.roots.items ≡ roots_of parents =
    roots_done parents c.loop-parent.roots.items c.loop-parent.parent-index (omega arith) c.loop-parent.invariant in
    rw (← c.self.view_is, ← c.as_slice-parents.ensures.value, done) refl

pub returns-clause-firsts : goal.returns-clause-firsts
returns-clause-firsts g c =
    let parents = c.as_slice-parents.result.now in
    let forest : AreParents parents = rw c.as_slice-parents.ensures.value c.self.invariant in
    let done : c.loop-parent.roots.items ≡ roots_of parents =
    roots_done parents c.loop-parent.roots.items c.loop-parent.parent-index (omega arith) c.loop-parent.invariant in
    rw (← c.self.view_is, ← c.as_slice-parents.ensures.value, done) (firsts_are parents forest)
