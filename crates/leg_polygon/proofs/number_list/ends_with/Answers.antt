use Rattle.std.proofs.Common.{◌≡◌, ◌-◌, pos, length, FitsSigned, w64, get_or, rules, arith}
use Rattle.std.proofs.lemmas.Bool.{eqb-true}
use Rattle.std.proofs.lemmas.Int.{ints}
use Rattle.leg_polygon.proofs.OddNumbers.{ends_here}
use Rattle.leg_polygon.proofs.number_list.ends_with.Goals as goal

pub returns-in-len1-up-clause-yes : goal.returns-in-len1-up-clause-yes
returns-in-len1-up-clause-yes c same =
    let fits : FitsSigned w64 (get_or c.args.numbers.now (length c.args.numbers.now - 1) (pos 0)) = search rules in
    let is : get_or c.args.numbers.now (length c.args.numbers.now - 1) (pos 0) ≡ c.args.number = omega (arith, ints, eqb-true _ _ same) in
    ends_here _ _ (omega (arith, c.in-len1-up.len_at_least)) is
