use Rattle.std.proofs.lemmas.Result.{on_ok_weaker}
use Rattle.leg_rules.specs.declared.difference.Difference.TheVariants.{Gone}
use Rattle.leg_compare.proofs.BetweenRanks.{without_one, changes_on}
use Rattle.leg_compare.proofs.listing.push_changes.Goals as goal

pub push_change-requires-clause-listed : goal.push_change-requires-clause-listed
push_change-requires-clause-listed g c =
    without_one c.args.first.now c.args.second.now (Gone c.args.section c.args.i) c.args.list.now.items
    (λ is. let no : ⊥ = cc (is.gone, c.requires.one_name.found) in no) c.requires.listed

pub returns : goal.returns
returns g c =
    on_ok_weaker c.push_change-11.result (λ listed. changes_on c.args.first.now c.args.second.now c.args.section _ c.args.i listed) c.push_change-11.ensures
