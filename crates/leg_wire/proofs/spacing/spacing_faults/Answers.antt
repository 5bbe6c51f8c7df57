-- The pairs that the search finds are the shorts and the shapes too near one another.
use Rattle.std.proofs.Common.{◌≡◌, ◌++◌}
use Rattle.leg_sweep.specs.Pairs.{ArePairs}
use Rattle.leg_design_records.specs.declared.fault.Fault.TheVariants.{Short, TooNear}
use Rattle.leg_design_records.specs.Violation.{IsListOf}
use Rattle.leg_wire.specs.Steps.TooCloseRule.{AreClose}
use Rattle.leg_wire.specs.Steps.PairViolations.{DoShare, ShareNoPoint, IsPairViolation}
use Rattle.leg_wire.proofs.SpacingLists.{first_within, second_within, listing_told}
use Rattle.leg_wire.proofs.spacing.spacing_faults.Goals as goal

pub push_pairs-requires-clause-increasing : goal.push_pairs-requires-clause-increasing
push_pairs-requires-clause-increasing g c = rw c.deref.ensures.value c.in_ok-close.ensures.increasing

pub push_pairs-requires-clause-first : goal.push_pairs-requires-clause-first
push_pairs-requires-clause-first g c = rw c.deref.ensures.value (first_within _ _ _ c.in_ok-close.ensures)

pub push_pairs-requires-clause-second : goal.push_pairs-requires-clause-second
push_pairs-requires-clause-second g c = rw c.deref.ensures.value (second_within _ _ _ c.in_ok-close.ensures)

pub push_pairs-requires-2-clause-first : goal.push_pairs-requires-2-clause-first
push_pairs-requires-2-clause-first g c = rw c.deref-2.ensures.value (first_within _ _ _ c.in_ok-close.ensures)

pub push_pairs-requires-2-clause-second : goal.push_pairs-requires-2-clause-second
push_pairs-requires-2-clause-second g c = rw c.deref-2.ensures.value (second_within _ _ _ c.in_ok-close.ensures)

pub returns : goal.returns
returns g c =
    let library = c.args.library.now in
    let flat = c.args.flat.now in
    let close = c.in_ok-close.close.items in
    let are : ArePairs (AreClose library) flat.shapes close = rw (c.new-rule.ensures.library, c.shapes-shapes.ensures.is) at c.in_ok-close.ensures in
    let s = c.in_ok-push_pairs.ensures in
    let n = c.in_ok-push_pairs-2.ensures in
    let shorts : IsListOf (IsPairViolation Short DoShare flat.shapes close) s.more = rw (c.deref.ensures.value, c.shapes-shapes.ensures.is) at s.list in
    let near : IsListOf (IsPairViolation TooNear ShareNoPoint flat.shapes close) n.more = rw (c.deref-2.ensures.value, c.shapes-shapes.ensures.is) at n.list in
    let found : c.push_pairs-2.new.found.items ≡ s.more ++ n.more = rw (n.is, s.is, c.new-found.ensures.items) in
    rw found (listing_told library flat close are s.more n.more shorts near)
