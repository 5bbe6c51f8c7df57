use Rattle.std.proofs.Common.{◌<◌}
use Rattle.std.proofs.lemmas.List.Elements.{All-tail}
use Rattle.std.proofs.lemmas.List.Sorted.{All-permutation}
use Rattle.leg_finish_search.specs.declared.front.Entry.{Entry}
use Rattle.leg_finish_search.proofs.front.Front.pop.Goals as goal

pub invariant_of-self-2 : goal.invariant_of-self-2
invariant_of-self-2 g c =
    All-tail (λ (e : Entry). e.slot.0 < c.self.inside.size) _ _
    (All-permutation (λ (e : Entry). e.slot.0 < c.self.inside.size) _ _ c.in_ok-entry.ensures.permutation c.self.invariant)
