use Rattle.std.proofs.Common.{◌≡◌, ◌≤◌, length}
use Rattle.leg_sweep.proofs.Apart.{pairs_from_sort}
use Rattle.leg_sweep.proofs.SinkPairs.{takes_listed}
use Rattle.leg_sweep.proofs.banded.pairs_in_bands.Goals as goal

pub returns-clause-tests : goal.returns-clause-tests
returns-clause-tests g c =
    let took = c.in_ok-search.ensures.pairs in
    let listed : c.search.new.sink.items ≡ took.found =
    rw c.new-found.ensures.items at (takes_listed _ (λ v. v.items) (λ s t p h. h) _ took.found _ took.taken) in
    let enough : length c.search.new.sink.items ≤ g.R.PairRule.tests_of c.search.new.rule = rw listed took.enough in
    rw c.sort_pairs.ensures.count enough

pub returns-clause-pairs : goal.returns-clause-pairs
returns-clause-pairs g c =
    let rule = g.R.PairRule in
    let took = c.in_ok-search.ensures.pairs in
    let listed : c.search.new.sink.items ≡ took.found =
    rw c.new-found.ensures.items at (takes_listed _ (λ v. v.items) (λ s t p h. h) _ took.found _ took.taken) in
    pairs_from_sort (rule.Holds (rule.fixed c.args.rule.now)) c.args.items.now c.search.new.sink.items c.sort_pairs.new.pairs.items (rw listed took.are)
    c.sort_pairs.ensures.moved c.sort_pairs.ensures.sorted
