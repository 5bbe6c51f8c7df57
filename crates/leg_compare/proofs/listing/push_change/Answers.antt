use Rattle.std.proofs.Common.{◌≡◌, ℕ, true, subst}
use Rattle.leg_rules.specs.declared.difference.Difference.TheVariants.{Changed}
use Rattle.leg_rules.specs.Compare.Sections.{names_of}
use Rattle.leg_rules.specs.Compare.Differences.{HasChanged}
use Rattle.leg_compare.proofs.BetweenRanks.{with_one, without_one}
use Rattle.leg_compare.proofs.EntryNames.{found_within}
use Rattle.leg_compare.proofs.listing.push_change.Goals as goal

pub has_changed-requires-clause-in_first : goal.has_changed-requires-clause-in_first
has_changed-requires-clause-in_first g c = c.requires.one_name.there

pub has_changed-requires-clause-in_second : goal.has_changed-requires-clause-in_second
has_changed-requires-clause-in_second g c = found_within _ (names_of c.args.section c.args.second.now) c.args.j c.requires.one_name.found

pub returns-in_ok-push : goal.returns-in_ok-push
returns-in_ok-push g c =
    rw c.in_ok-push.ensures.items (with_one c.args.first.now c.args.second.now (Changed c.args.section c.args.change c.args.i) c.args.list.now.items
    (record { j = c.args.j; one_name = c.requires.one_name; changed = c.in_ok-differs.ensures.0 c.if-differs.true }) c.requires.listed)

pub returns-else-differs : goal.returns-else-differs
returns-else-differs g c =
    without_one c.args.first.now c.args.second.now (Changed c.args.section c.args.change c.args.i) c.args.list.now.items
    (λ is. let same : is.j ≡ c.args.j = cc (is.one_name.found, c.requires.one_name.found) in
    let changed : c.in_ok-differs.differs ≡ true = c.in_ok-differs.ensures.1
    (subst (λ (j : ℕ). HasChanged c.args.section c.args.change c.args.first.now c.args.second.now c.args.i j) same is.changed) in
    let no : ⊥ = cc in no) c.requires.listed
