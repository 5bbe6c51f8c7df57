use Rattle.std.proofs.Common.{nat_eq}
use Rattle.std.proofs.lemmas.List.Filters.{dedup_is}
use Rattle.std.proofs.lemmas.List.Kept.{Contains-dedup_nat}
use Rattle.std.proofs.lemmas.List.Sorted.{Contains-permutation}
use Rattle.std.proofs.lemmas.Map.Keys.{IsStrictlyIncreasing-dedup}
use Rattle.leg_design_nets.proofs.NamedNumbers.{contains_number}
use Rattle.leg_design_nets.proofs.known_pins.put_in_order.Goals as goal

pub returns-clause-rising : goal.returns-clause-rising
returns-clause-rising g c =
    rw (dedup_is nat_eq _ _ c.dedup.ensures.filtered) (IsStrictlyIncreasing-dedup c.sort_unstable.new.self.items c.sort_unstable.ensures.sorted)

pub returns-clause-all : goal.returns-clause-all
returns-clause-all g c n there =
    rw (dedup_is nat_eq _ _ c.dedup.ensures.filtered)
    (Contains-dedup_nat c.sort_unstable.new.self.items n
    (Contains-permutation c.args.numbers.now.items c.sort_unstable.new.self.items n c.sort_unstable.ensures.permutation
    (contains_number n c.args.numbers.now.items there)))
