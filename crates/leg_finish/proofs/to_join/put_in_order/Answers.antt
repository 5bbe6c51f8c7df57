use Rattle.std.proofs.Common.{◌<◌, All, nat_eq}
use Rattle.std.specs.List.{dedup}
use Rattle.std.proofs.lemmas.List.Elements.{All-contains}
use Rattle.std.proofs.lemmas.List.Filters.{dedup_is}
use Rattle.std.proofs.lemmas.List.Kept.{Contains-from_dedup}
use Rattle.std.proofs.lemmas.List.Sorted.{All-permutation}
use Rattle.leg_lemmas.proofs.Contents.{All-from_contains}
use Rattle.leg_finish.proofs.to_join.put_in_order.Goals as goal

pub returns : goal.returns
returns g c size within =
    let sorted = c.sort_unstable.new.self.items in
    let all : All (λ n. n < size) sorted = All-permutation (λ n. n < size) c.args.numbers.now.items sorted c.sort_unstable.ensures.permutation within in
    rw (dedup_is nat_eq _ _ c.dedup.ensures.filtered)
    (All-from_contains (λ n. n < size) (dedup nat_eq sorted) (λ n has. All-contains (λ n. n < size) sorted n all (Contains-from_dedup nat_eq sorted n has)))
