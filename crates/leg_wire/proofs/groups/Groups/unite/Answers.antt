-- The members of the higher of the two roots come to those of the lower one.
use Rattle.std.proofs.Common.{◌≡◌, ◌<◌, Some, slice_get, length, arith}
use Rattle.std.proofs.lemmas.Grind.{common_steps}
use Rattle.leg_wire.specs.Steps.NumberSets.{IsMerged, AreListsMerged}
use Rattle.leg_wire.proofs.MergedLists.{roots_apart, groups_merged, first_grown, lists_back}
use Rattle.leg_wire.proofs.groups.Groups.unite.Given.{Over}
use Rattle.leg_wire.proofs.groups.Groups.unite.Goals as goal

pub merge-requires-clause-order : goal.merge-requires-clause-order
merge-requires-clause-order g c =
    let others =
    roots_apart c.args.self.now.sets c.args.a c.args.b c.least-one.result c.least-other.result c.requires.apart c.least-one.ensures.is
    (rw (← c.least-one.ensures.same) c.least-other.ensures.is) in
    omega (arith, c.min.ensures, c.max.ensures, others)

pub merge-requires-clause-within : goal.merge-requires-clause-within
merge-requires-clause-within g c =
    let other : c.least-other.result < length c.args.self.now.sets = rw (← c.least-one.ensures.same) c.least-other.ensures.within in
    rw c.deref_mut.ensures.value (omega (arith, c.max.ensures, c.least-one.ensures.within, other, c.requires.listed.members.many))

-- the roots are two, and the higher one is a number that is there
order : (g : Over) (c : goal.In_ok-merge g) → c.min.result < c.max.result
order g c =
    let others =
    roots_apart c.args.self.now.sets c.args.a c.args.b c.least-one.result c.least-other.result c.requires.apart c.least-one.ensures.is
    (rw (← c.least-one.ensures.same) c.least-other.ensures.is) in
    omega (arith, c.min.ensures, c.max.ensures, others)

within : (g : Over) (c : goal.In_ok-merge g) → c.max.result < length c.args.self.now.sets
within g c =
    let other : c.least-other.result < length c.args.self.now.sets = rw (← c.least-one.ensures.same) c.least-other.ensures.within in
    omega (arith, c.max.ensures, c.least-one.ensures.within, other)

-- the two sets are made one
sets_merged : (g : Over) (c : goal.In_ok-merge g) → IsMerged c.min.result c.max.result c.args.self.now.sets c.unite.new.self
sets_merged g c =
    let of_a : slice_get c.args.self.now.sets c.args.a ≡ Some c.least-one.result = c.least-one.ensures.is in
    let of_b : slice_get c.args.self.now.sets c.args.b ≡ Some c.least-other.result = rw (← c.least-one.ensures.same) c.least-other.ensures.is in
    rw (c.min.ensures, c.max.ensures, ← c.least-one.ensures.same, ← c.least-other.ensures.same)
    (c.unite.ensures.merged c.least-one.result c.least-other.result (rw (c.least-other.ensures.same, c.least-one.ensures.same) of_a)
    (rw (c.least-other.ensures.same, c.least-one.ensures.same) of_b))

-- and so are their lists
written : (g : Over) (c : goal.In_ok-merge g) → AreListsMerged c.min.result c.max.result c.args.self.now.members.items c.merge.new.members
written g c = rw c.deref_mut.ensures.value at c.in_ok-merge.ensures

pub returns-clause-listed : goal.returns-clause-listed
returns-clause-listed g c =
    let sets = c.args.self.now.sets in
    let lists = c.args.self.now.members.items in
    let size : c.args.self.now.members.len ≡ length lists = grind (arith, common_steps) in
    rw (lists_back lists c.merge.new.members c.args.self.now.members.len (written g c).count size)
    (groups_merged sets c.unite.new.self lists c.merge.new.members c.min.result c.max.result (order g c) (within g c) (sets_merged g c) c.requires.listed
    (written g c))

pub returns-clause-grown : goal.returns-clause-grown
returns-clause-grown g c =
    let sets = c.args.self.now.sets in
    let lists = c.args.self.now.members.items in
    let size : c.args.self.now.members.len ≡ length lists = grind (arith, common_steps) in
    rw (lists_back lists c.merge.new.members c.args.self.now.members.len (written g c).count size)
    (first_grown sets c.unite.new.self lists c.merge.new.members c.min.result c.max.result (order g c) (within g c) (sets_merged g c) c.requires.listed
    (written g c))
