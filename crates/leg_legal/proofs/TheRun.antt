-- The theorem of the run: what comes of it is legally placed, and the same but for places.
use Rattle.std.proofs.Common.{◌≡◌, ℕ, List, get_or, Option, None, Some, refl, sym, ◌∙◌, inl, inr}
use Rattle.std.proofs.lemmas.List.Elements.{All-contains}
use Rattle.std.proofs.lemmas.Option.{same_Some}
use Rattle.leg_lemmas.proofs.Places.{all_at}
use Rattle.leg_geom.specs.declared.place.Place.{Place}
use Rattle.leg_design_records.specs.Records.{DesignModel}
use Rattle.leg_design_records.specs.WellFormedParts.{IsPlaced, IsComponent}
use Rattle.leg_design_records.specs.WellFormed.{IsWellFormed}
use Rattle.leg_design_records.specs.Violation.{components_of}
use Rattle.leg_design_records.specs.declared.fault.Fault.TheVariants.{Unplaced}
use Rattle.leg_design_records.specs.declared.records.Status.{Status}
use Rattle.leg_design_records.specs.declared.records.Status.TheVariants as status
use Rattle.leg_design_records.specs.declared.records.Component.{Component}
use Rattle.leg_rules.specs.Placement.Violations.{IsLegallyPlaced}
use Rattle.leg_rules.specs.Placement.Violations.IsPlacementViolation.{unplaced}
use Rattle.leg_design_records.specs.Movable.{MayMove, IsMovable}
use Rattle.leg_rules.specs.Legalise.Free.{IsSettled}
use Rattle.leg_rules.specs.Legalise.Turns.{IsOrderOfTaking}
use Rattle.leg_rules.specs.Legalise.Run.{LegaliseRun}
use Rattle.leg_rules.specs.Legalise.SameButForPlaces.{IsPlacedAnew, IsSameButForPlaces}
use Rattle.leg_rules.specs.Legalise.Refusals.{NoneStaying}
use Rattle.leg_design_records.proofs.MovableOrNot.{movable_or_not}
use Rattle.leg_legal.proofs.OnRow.{HasSoundRows}
use Rattle.leg_legal.proofs.RunSoFar.{IsSoFar, so_far, none_settled}
use Rattle.leg_legal.proofs.TheOrder.{order_movable}

module _ (before after : DesignModel) (order : List ℕ) (is_order : IsOrderOfTaking before order) (run : LegaliseRun before order after) where
  abbrev so : IsSoFar before order after
  so = so_far before order after run (order_movable before order is_order)

  -- at the end of the run all is settled
  all_settled : (c : ℕ) → IsSettled after order c
  all_settled c =
      elim (movable_or_not after c) [
        | inl m ↦ inr (is_order.all c (so.movable_back c m))
        | inr stays ↦ inl stays
      ]

  -- where no violation holds among what stays, the end of the run is legally placed
  pub run_legal : HasSoundRows before → NoneStaying before → IsLegallyPlaced after
  run_legal sound staying fault holds =
      (none_settled before order after sound staying run (order_movable before order is_order)).none fault holds
      (λ k d within. all_settled (get_or (components_of fault) k d))

  -- and the same but for places
  pub run_same : IsSameButForPlaces before after
  run_same = record {
    rest = so.rest;
    count = so.count;
    stays = λ c stays. so.waiting c (λ has. stays (All-contains (IsMovable before) order c is_order.each has));
    moves = λ c old new m was is. so.moved c old new (is_order.all c m) was is;
  }

-- a component that may move and has a place is PLACED there
is_placed : (component : Component) (status : Status) (place : Option Place) → component.status ≡ status → component.place ≡ place → MayMove status
    → IsPlaced status place → (place ≡ None → ⊥) → IsPlacedAnew component component
is_placed component status.Unplaced None s p may placed some = absurd (some refl)
is_placed component status.Unplaced (Some place) s p may placed some = absurd placed
is_placed component status.Placed None s p may placed some = absurd placed
is_placed component status.Placed (Some place) s p may placed some = record { place = place; is = λ i. record component { status = s i; place = p i } }
is_placed component status.Fixed place s p may placed some = absurd may
is_placed component status.Cover place s p may placed some = absurd may

-- a legally placed design is the same as itself: its movable components are PLACED
pub legal_same : (design : DesignModel) → IsWellFormed design → IsLegallyPlaced design → IsSameButForPlaces design design
legal_same design proper legal = record {
  rest = refl;
  count = refl;
  stays = λ c stays. refl;
  moves = λ c old new m was is.
      let same : new ≡ old = same_Some new old (sym is ∙ was) in
      let movable_is : m.component ≡ old = same_Some m.component old (sym m.there ∙ was) in
      let part : IsComponent design.library old = all_at (IsComponent design.library) design.components c old proper.components.each was in
      let anew : IsPlacedAnew old old =
      is_placed old old.status old.place refl refl (rw movable_is at m.status) part.placed
      (λ none. legal (Unplaced c) (unplaced (record { component = old; there = was; unplaced = none }))) in
      rw same anew;
}
