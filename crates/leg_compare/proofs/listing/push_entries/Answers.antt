use Rattle.std.proofs.Common.{◌≡◌, ℕ, ◌<◌, length, subst, arith}
use Rattle.leg_rules.specs.declared.difference.Difference.TheVariants.{Gone}
use Rattle.leg_rules.specs.Compare.Sections.{names_of, IsMissing}
use Rattle.leg_rules.specs.Compare.Order.{section_number}
use Rattle.leg_compare.specs.Steps.Listing.{at, AreListedTo}
use Rattle.leg_compare.proofs.BetweenRanks.{with_one, gone_on, entries_end}
use Rattle.leg_compare.proofs.Entries.{is_missing}
use Rattle.leg_compare.proofs.listing.push_entries.Goals as goal
use Rattle.leg_compare.proofs.listing.push_entries.Goals.{in-None+in_ok-push-in-None, in-Some+in_ok-push_changes-in-Some}

pub loop-i-preserved : goal.loop-i-preserved
loop-i-preserved g c =
    elim c.match-place_of.branch [
      | in-None+in_ok-push-in-None w ↦
          let within : c.loop-i.i < length (names_of c.args.section c.args.first.now) = omega arith in
          let missing : IsMissing c.args.section c.args.first.now c.args.second.now c.loop-i.i =
          is_missing c.args.section c.args.first.now c.args.second.now c.loop-i.i c.name_at.result.now c.args.later.now c.place_of.result
          (c.requires.names, c.name_at.ensures, c.place_of.ensures) within w.in-None.is in
          rw (w.list-is, w.in_ok-push-in-None.ensures.items) (gone_on c.args.first.now c.args.second.now c.args.section _ c.loop-i.i missing
          (with_one c.args.first.now c.args.second.now (Gone c.args.section c.loop-i.i) c.loop-i.list.items missing c.loop-i.invariant))
      | in-Some+in_ok-push_changes-in-Some w ↦ rw w.list-is w.in_ok-push_changes-in-Some.ensures
    ]

pub returns : goal.returns
returns g c =
    let all : c.loop-i.i ≡ length (names_of c.args.section c.args.first.now) = omega arith in
    entries_end c.args.first.now c.args.second.now c.args.section c.loop-i.list.items
    (subst (λ (i : ℕ). AreListedTo c.args.first.now c.args.second.now (at (section_number c.args.section) i 0) c.loop-i.list.items) all c.loop-i.invariant)
