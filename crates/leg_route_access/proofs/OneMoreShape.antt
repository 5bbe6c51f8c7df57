-- One slot is told of a shape more.
use Rattle.std.proofs.Common.{◌≡◌, ℕ, ◌<◌, List, length, length-set, slice_set, Some, slice_get, sym, subst, ◌∙◌}
use Rattle.std.proofs.lemmas.Option.{same_Some}
use Rattle.leg_lemmas.proofs.Places.{slice_set_here, slice_set_elsewhere}
use Rattle.leg_rules.specs.declared.shape.Shape.{Shape}
use Rattle.leg_wire_spacing.specs.Access.{alone}
use Rattle.leg_route_access.specs.declared.slot_access.SlotAccess.{SlotAccess}
use Rattle.leg_route_grid.specs.Steps.Grid.{GridModel, IsDesignGrid}
use Rattle.leg_route_access.specs.Steps.AccessTable.{IsSlotAccess}
use Rattle.leg_route_access.specs.Steps.AccessUpdates.{AreAccessAfter}
use Rattle.leg_route_access.proofs.GrownSlots.{AdmitBoth, tells_grown}

pub told_here : (grid : GridModel) → IsDesignGrid grid → (shape : Shape) (number : ℕ) (before : List SlotAccess) (old beside both : SlotAccess)
    → number < length before → slice_get before number ≡ Some old → IsSlotAccess grid (alone shape) number beside
    → AdmitBoth old beside both
    → AreAccessAfter grid shape (λ n. n ≡ number) before (slice_set before number both)
told_here grid is_grid shape number before old beside both within there tells admits = record {
  count = length-set before number both;
  told = λ n is. record {
    told = λ flat grown slot has old_at told new at_new.
        let at_number : slice_get before number ≡ Some slot = rw is at old_at in
        let first : old ≡ slot = same_Some old slot (sym there ∙ at_number) in
        let new_at : slice_get (slice_set before number both) number ≡ Some new = rw is at at_new in
        let second : both ≡ new = same_Some both new (sym (slice_set_here before number both within) ∙ new_at) in
        let P : SlotAccess → Type 0 = λ s. IsSlotAccess grid flat number s in
        let was : IsSlotAccess grid flat number old = subst P (sym first) (rw is at told) in
        let grows = tells_grown grid is_grid number shape flat grown has old beside both was tells admits in
        let Q : SlotAccess → Type 0 = λ s. IsSlotAccess grid grown number s in
        let R : ℕ → Type 0 = λ n. IsSlotAccess grid grown n new in
        subst R (sym is) (subst Q second grows);
  };
  others = λ n other. slice_set_elsewhere before number n both other;
}
