use Rattle.std.proofs.Common.{◌<◌, inl, inr}
use Rattle.std.proofs.lemmas.List.Elements.{All-nil}
use Rattle.leg_sweep.proofs.Lists.{Contains-nil}
use Rattle.leg_route_grid.specs.Steps.Grid.{slot_total}
use Rattle.leg_route.proofs.end_slots.add_ends.Goals as goal

pub returns : goal.returns
returns g c = record {
  slots = c.add_slots_in.new.found.slots.items;
  got = rw (c.deref.ensures.value, c.in_ok-note_places.ensures) at c.in_ok-push_ends.ensures;
  in_rect = λ n.
      let added = rw c.new-found.ensures.slots at (c.in_ok-add_slots_in.ensures.added n) in
      (λ has. elim (added.0 has) [ inl none ↦ absurd (Contains-nil n none) | inr one ↦ one ], λ one. added.1 (inr one));
  within = rw c.in_ok-add_slots_in.was at (c.add_slots_in.ensures.within (rw c.new-found.ensures.slots (All-nil (λ n. n < slot_total c.args.grid.now))));
}
