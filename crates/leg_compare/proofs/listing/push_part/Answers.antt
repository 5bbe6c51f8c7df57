use Rattle.std.proofs.Common.{◌≡◌, true}
use Rattle.leg_rules.specs.declared.difference.Difference.TheVariants.{Whole}
use Rattle.leg_compare.proofs.BetweenRanks.{with_one, without_one, part_on}
use Rattle.leg_compare.proofs.listing.push_part.Goals as goal

pub returns-in_ok-push : goal.returns-in_ok-push
returns-in_ok-push g c =
    rw c.in_ok-push.ensures.items (part_on c.args.first.now c.args.second.now c.args.part _
    (with_one c.args.first.now c.args.second.now (Whole c.args.part) c.args.list.now.items (c.differ_in.ensures.0 c.if-differ_in.true) c.requires))

pub returns-else-differ_in : goal.returns-else-differ_in
returns-else-differ_in g c =
    part_on c.args.first.now c.args.second.now c.args.part c.args.list.now.items
    (without_one c.args.first.now c.args.second.now (Whole c.args.part) c.args.list.now.items
    (λ is. let differ : c.differ_in.result ≡ true = c.differ_in.ensures.1 is in let no : ⊥ = cc in no) c.requires)
