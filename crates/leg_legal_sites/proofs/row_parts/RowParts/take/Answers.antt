-- The parts have lost the sites, and some are cut or let go then.
use Rattle.std.proofs.Common.{◌≡◌, length, drop, ap, arith}
use Rattle.std.proofs.lemmas.List.{take_at}
use Rattle.std.proofs.lemmas.Result.{on_ok_weaker}
use Rattle.leg_legal_sites.specs.Steps.Parts.{all_of, AreAllFewer, AreLostUpTo, LosesSites}
use Rattle.leg_legal_sites.proofs.Parts.{in_row_fewer, lost_all, loses_kept}
use Rattle.leg_legal_sites.proofs.PartPlaces.{groups_fewer}
use Rattle.leg_legal_sites.proofs.row_parts.RowParts.take.Goals as goal

pub place_from-first-requires : goal.place_from-first-requires
place_from-first-requires g c = rw c.as_slice.ensures.value c.self.invariant.in_row

pub place_beyond-last-requires : goal.place_beyond-last-requires
place_beyond-last-requires g c = rw c.as_slice-2.ensures.value c.self.invariant.in_row

pub take_from_parts-requires-clause-before : goal.take_from_parts-requires-clause-before
take_from_parts-requires-clause-before g c = rw c.as_mut_slice.ensures.value (rw c.as_slice.ensures.value at c.place_from-first.ensures.before)

pub take_from_parts-requires-clause-beyond : goal.take_from_parts-requires-clause-beyond
take_from_parts-requires-clause-beyond g c = rw c.as_mut_slice.ensures.value (rw c.as_slice-2.ensures.value at c.place_beyond-last.ensures.beyond)

pub invariant_of-self : goal.invariant_of-self
invariant_of-self g c =
    let old = c.self.inside.parts.items in
    let new = c.take_from_parts.new.parts in
    let long = c.as_mut_slice.ensures.len in
    let kept = c.take_from_parts.auto.parts in
    let value = ap length c.as_mut_slice.ensures.value in
    let count : length new ≡ c.self.inside.parts.len = omega (arith, long, kept) in
    let same : length new ≡ length old = omega (arith, kept, value) in
    let whole = take_at new (drop (length new) old) c.self.inside.parts.len count in
    let fewer : AreAllFewer old new = rw c.as_mut_slice.ensures.value at c.take_from_parts.ensures.fewer in
    rw whole (record {
      in_row = in_row_fewer old c.self.invariant.in_row new fewer;
      grouped = groups_fewer old new c.self.inside.groups.items same fewer c.self.invariant.grouped;
    })

pub regroup-requires-clause-parts : goal.regroup-requires-clause-parts
regroup-requires-clause-parts g c =
    let old = c.self.inside.parts.items in
    let new = c.take_from_parts.new.parts in
    let long = c.as_mut_slice.ensures.len in
    let kept = c.take_from_parts.auto.parts in
    let value = ap length c.as_mut_slice.ensures.value in
    let count : length new ≡ c.self.inside.parts.len = omega (arith, long, kept) in
    let same : length new ≡ length old = omega (arith, kept, value) in
    let whole = take_at new (drop (length new) old) c.self.inside.parts.len count in
    let fewer : AreAllFewer old new = rw c.as_mut_slice.ensures.value at c.take_from_parts.ensures.fewer in
    rw whole (record {
      in_row = in_row_fewer old c.self.invariant.in_row new fewer;
      grouped = groups_fewer old new c.self.inside.groups.items same fewer c.self.invariant.grouped;
    })

pub returns : goal.returns
returns g c =
    let old = c.self.inside.parts.items in
    let new = c.take_from_parts.new.parts in
    let long = c.as_mut_slice.ensures.len in
    let kept = c.take_from_parts.auto.parts in
    let count : length new ≡ c.self.inside.parts.len = omega (arith, long, kept) in
    let whole = take_at new (drop (length new) old) c.self.inside.parts.len count in
    let lost : AreLostUpTo c.args.from c.args.end (length old) old new = rw c.as_mut_slice.ensures.value at c.in_ok-take_from_parts.ensures.lost in
    let loses : LosesSites (all_of old) c.args.from c.args.end (all_of new) = lost_all c.args.from c.args.end old new lost in
    rw (← c.self.view_is) (on_ok_weaker c.regroup.result
    (λ same. loses_kept c.args.from c.args.end (all_of old) (all_of new) (all_of c.regroup.new.parts.items) loses same) (rw whole at c.regroup.ensures.kept))
