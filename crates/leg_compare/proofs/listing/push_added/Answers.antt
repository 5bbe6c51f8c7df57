use Rattle.std.proofs.Common.{◌≡◌, ℕ, ◌+◌, ◌<◌, length, subst, arith}
use Rattle.leg_rules.specs.declared.difference.Difference.TheVariants.{Added}
use Rattle.leg_rules.specs.Compare.Sections.{names_of, IsMissing}
use Rattle.leg_rules.specs.Compare.Order.{section_number}
use Rattle.leg_compare.specs.Steps.Listing.{at, AreListedTo}
use Rattle.leg_compare.proofs.BetweenRanks.{with_one, without_one, added_on, added_end}
use Rattle.leg_compare.proofs.Entries.{is_missing, not_missing, is_nothing, is_something}
use Rattle.leg_compare.proofs.listing.push_added.Goals as goal
use Rattle.leg_compare.proofs.listing.push_added.Goals.{then-is_none+in_ok-push, else-is_none}

pub loop-j-preserved : goal.loop-j-preserved
loop-j-preserved g c =
    elim c.if-is_none.branch [
      | then-is_none+in_ok-push w ↦
          let within : c.loop-j.j < length (names_of c.args.section c.args.second.now) = omega arith in
          let missing : IsMissing c.args.section c.args.second.now c.args.first.now c.loop-j.j =
          is_missing c.args.section c.args.second.now c.args.first.now c.loop-j.j c.name_at.result.now c.args.earlier.now c.place_of.result
          (c.requires.names, c.name_at.ensures, c.place_of.ensures) within
          (is_nothing c.place_of.result c.is_none.result c.is_none.ensures w.if-is_none.true) in
          rw (w.list-is, w.in_ok-push.ensures.items) (added_on c.args.first.now c.args.second.now c.args.section _ c.loop-j.j
          (with_one c.args.first.now c.args.second.now (Added c.args.section c.loop-j.j) c.loop-j.list.items missing c.loop-j.invariant))
      | else-is_none w ↦
          rw w.list-is (added_on c.args.first.now c.args.second.now c.args.section c.loop-j.list.items c.loop-j.j
          (without_one c.args.first.now c.args.second.now (Added c.args.section c.loop-j.j) c.loop-j.list.items
          (not_missing c.args.section c.args.second.now c.args.first.now c.loop-j.j c.name_at.result.now c.args.earlier.now c.place_of.result
          (c.requires.names, c.name_at.ensures, c.place_of.ensures)
          (is_something c.place_of.result c.is_none.result c.is_none.ensures w.if-is_none.false)) c.loop-j.invariant))
    ]

pub returns : goal.returns
returns g c =
    let all : c.loop-j.j ≡ length (names_of c.args.section c.args.second.now) = omega arith in
    added_end c.args.first.now c.args.second.now c.args.section c.loop-j.list.items
    (subst (λ (j : ℕ). AreListedTo c.args.first.now c.args.second.now (at (section_number c.args.section + 1) j 0) c.loop-j.list.items) all c.loop-j.invariant)
