-- The pairs of kinds stand for those of their shapes.
use Rattle.std.proofs.Common.{◌≡◌, length, arith}
use Rattle.std.proofs.lemmas.Grind.{common_steps}
use Rattle.leg_sweep.specs.Pairs.{ArePairs}
use Rattle.leg_wire.specs.Steps.TooCloseRule.{AreClose}
use Rattle.leg_wire.specs.Steps.Kinds.{AreAlike, AreKinds, AreMembers, pairs_among}
use Rattle.leg_wire.proofs.SpacingLists.{first_within, second_within}
use Rattle.leg_wire.proofs.KindPairs.{pairs_of_kinds}
use Rattle.leg_wire.proofs.close_pairs.close_pairs.Goals as goal

pub push_among-requires-clause-first : goal.push_among-requires-clause-first
push_among-requires-clause-first g c =
    let kinds = c.in_ok-kinds.kinds.items in
    let size : c.len.result ≡ length kinds = grind (arith, common_steps) in
    let are : ArePairs _ kinds c.in_ok-close.close.items = rw c.deref.ensures.value at c.in_ok-close.ensures.pairs in
    rw (c.deref-3.ensures.value, c.deref-4.ensures.value, c.in_ok-members.ensures.many, size) (first_within _ _ _ are)

pub push_among-requires-clause-second : goal.push_among-requires-clause-second
push_among-requires-clause-second g c =
    let kinds = c.in_ok-kinds.kinds.items in
    let size : c.len.result ≡ length kinds = grind (arith, common_steps) in
    let are : ArePairs _ kinds c.in_ok-close.close.items = rw c.deref.ensures.value at c.in_ok-close.ensures.pairs in
    rw (c.deref-3.ensures.value, c.deref-4.ensures.value, c.in_ok-members.ensures.many, size) (second_within _ _ _ are)

pub returns : goal.returns
returns g c =
    let library = c.args.rule.now.library.now in
    let shapes = c.args.shapes.now in
    let kinds = c.in_ok-kinds.kinds.items in
    let numbers = c.in_ok-kinds.numbers.items in
    let members = c.in_ok-members.members.items in
    let close = c.in_ok-close.close.items in
    let are_kinds : AreKinds AreAlike shapes kinds numbers = c.in_ok-kinds.ensures in
    let size : c.len.result ≡ length kinds = grind (arith, common_steps) in
    let are_members : AreMembers numbers (length kinds) members = rw (c.deref-2.ensures.value, size) at c.in_ok-members.ensures in
    let are : ArePairs (AreClose library) kinds close = rw c.deref.ensures.value at c.in_ok-close.ensures.pairs in
    let found : c.push_among.new.found.items ≡ pairs_among members close =
    rw (c.deref-3.ensures.value, c.deref-4.ensures.value, c.new-found.ensures.items) at c.in_ok-push_among.ensures in
    pairs_of_kinds library shapes kinds numbers members close are_kinds are_members are c.put_in_order.new.pairs.items c.put_in_order.ensures.rising
    (λ p has. rw found at ((c.put_in_order.ensures.same p).0 has))
    (λ p has. (c.put_in_order.ensures.same p).1 (rw found has))
