use Rattle.std.proofs.Common.{◌<◌}
use Rattle.std.proofs.lemmas.List.Elements.{All-cons}
use Rattle.std.proofs.lemmas.List.Sorted.{All-permutation}
use Rattle.leg_finish_search.specs.declared.front.Entry.{Entry}
use Rattle.leg_finish_search.proofs.front.Front.push.Goals as goal

pub invariant_of-self-2 : goal.invariant_of-self-2
invariant_of-self-2 g c =
    All-permutation (λ (e : Entry). e.slot.0 < c.self.inside.size) _ _ c.in_ok-push.ensures.permutation
    (All-cons (λ (e : Entry). e.slot.0 < c.self.inside.size) _ _ (rw (← c.self.view_is) at c.requires) c.self.invariant)
