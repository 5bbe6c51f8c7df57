-- What a run has changed so far, and that it breaks no rule among what is settled.
use Rattle.std.proofs.Common.{◌≡◌, ◌≢◌, ℕ, List, [], ◌∷◌, ◌++◌, length, Some, slice_get, All, AllPairs, Contains, refl, sym, ap, ◌∙◌, inl, inr}
use Rattle.std.proofs.lemmas.Bool.{cases_eq}
use Rattle.std.proofs.lemmas.List.{length-set}
use Rattle.std.proofs.lemmas.List.Elements.{Contains-push, Contains-push_cases, Contains-append_left, All-contains, All-weaker}
use Rattle.std.proofs.lemmas.Option.{same_Some}
use Rattle.leg_lemmas.proofs.Contents.{Contains-nil}
use Rattle.leg_geom.specs.declared.place.Place.{Place}
use Rattle.leg_design_records.specs.Records.{DesignModel}
use Rattle.leg_design_records.specs.Violation.{components_of}
use Rattle.leg_design_records.specs.declared.records.Component.{Component}
use Rattle.leg_design_records.specs.Movable.{IsMovable}
use Rattle.leg_rules.specs.Legalise.Free.{IsSettled}
use Rattle.leg_rules.specs.Legalise.Run.{placed_at, moved_to, LegaliseRun}
use Rattle.leg_rules.specs.Legalise.Run.LegaliseRun.{none, one}
use Rattle.leg_rules.specs.Legalise.SameButForPlaces.{IsPlacedAnew}
use Rattle.leg_rules.specs.Legalise.Refusals.{NoneStaying}
use Rattle.leg_legal.proofs.Elements.{pairs_before, pairs_with_last, all_before}
use Rattle.leg_legal.proofs.OneMove.{here, elsewhere, movable_after, movable_before}
use Rattle.leg_legal.proofs.OnRow.{HasSoundRows}
use Rattle.leg_legal.proofs.SettledPlaces.{NoneSettled, settled_more}

-- movable components, no two alike
pub record AreMovable (design : DesignModel) (done : List ℕ) : Type 0 where
  pub each : All (IsMovable design) done
  pub apart : AllPairs (λ c d. c ≢ d) done

-- the components of the list have been placed anew, and all else is as it was
pub record IsSoFar (before : DesignModel) (done : List ℕ) (now : DesignModel) : Type 0 where
  pub rest : now ≡ record before { components = now.components }
  pub count : length now.components ≡ length before.components
  pub waiting : (d : ℕ) → (Contains done d → ⊥) → slice_get now.components d ≡ slice_get before.components d
  pub moved : (d : ℕ) (old new : Component) → Contains done d → slice_get before.components d ≡ Some old → slice_get now.components d ≡ Some new
      → IsPlacedAnew old new
  pub movable : (d : ℕ) → IsMovable before d → IsMovable now d
  pub movable_back : (d : ℕ) → IsMovable now d → IsMovable before d
  pub sound : HasSoundRows before → HasSoundRows now

so_far_none : (before : DesignModel) → IsSoFar before [] before
so_far_none before = record {
  rest = refl;
  count = refl;
  waiting = λ d apart. refl;
  moved = λ d old new has. absurd (Contains-nil d has);
  movable = λ d m. m;
  movable_back = λ d m. m;
  sound = λ s. s;
}

module _ (before : DesignModel) (done : List ℕ) (now : DesignModel) (c : ℕ) (component : Component) (place : Place)
    (so : IsSoFar before done now) (at : slice_get now.components c ≡ Some component) (movable : IsMovable before c) (fresh : Contains done c → ⊥) where
  abbrev after : DesignModel
  after = moved_to now c component place

  moved_one : (d : ℕ) (old new : Component) → Contains (done ++ c ∷ []) d → slice_get before.components d ≡ Some old → slice_get after.components d ≡ Some new
      → IsPlacedAnew old new
  moved_one d old new has was is =
      elim (cases_eq d c) [
        | inl same ↦
            let was_here : slice_get before.components c ≡ Some old = rw same at was in
            let is_here : slice_get after.components c ≡ Some new = rw same at is in
            let old_is : component ≡ old = same_Some component old (sym at ∙ so.waiting c fresh ∙ was_here) in
            let new_is : new ≡ placed_at component place = same_Some new (placed_at component place) (sym is_here ∙ here now c component place at) in
            record { place = place; is = new_is ∙ ap (λ x. placed_at x place) old_is }
        | inr apart ↦ elim (Contains-push_cases done c d has) [
          | inl earlier ↦ so.moved d old new earlier was (sym (elsewhere now c component place at d apart) ∙ is)
          | inr same ↦ absurd (apart (sym same))
        ]
      ]

  so_far_one : IsSoFar before (done ++ c ∷ []) (moved_to now c component place)
  so_far_one = record {
    rest = ap (λ (d : DesignModel). record d { components = after.components }) so.rest;
    count = length-set now.components c (placed_at component place) ∙ so.count;
    waiting = λ d apart.
        elsewhere now c component place at d (λ same. apart (rw same (Contains-push done c)))
        ∙ so.waiting d (λ has. apart (Contains-append_left done (c ∷ []) d has));
    moved = moved_one;
    movable = λ d m. movable_after now c component place at (so.movable c movable) d (so.movable d m);
    movable_back = λ d m. so.movable_back d (movable_before now c component place at (so.movable c movable) d m);
    sound = λ s. record { sites = (so.sound s).sites; rows = (so.sound s).rows };
  }

-- the components before the last one, and that it is none of them
module _ (design : DesignModel) (done : List ℕ) (c : ℕ) (are : AreMovable design (done ++ c ∷ [])) where
  pub earlier_movable : AreMovable design done
  earlier_movable = record {
    each = all_before (IsMovable design) done c are.each;
    apart = pairs_before (λ c d. c ≢ d) done c are.apart;
  }

  pub last_movable : IsMovable design c
  last_movable = All-contains (IsMovable design) (done ++ c ∷ []) c are.each (Contains-push done c)

  pub last_fresh : Contains done c → ⊥
  last_fresh has = pairs_with_last (λ c d. c ≢ d) done c c are.apart has refl

pub so_far : (before : DesignModel) (done : List ℕ) (now : DesignModel) → LegaliseRun before done now → AreMovable before done → IsSoFar before done now
so_far before done now none are = so_far_none before
so_far before _ _ (one {done = done} {now = now} {c = c} {component = component} {place = place} run at takes) are =
    so_far_one before done now c component place (so_far before done now run (earlier_movable before done c are)) at
    (last_movable before done c are) (last_fresh before done c are)

-- where none has been taken, what is settled stays
settled_stays : (design : DesignModel) (c : ℕ) → IsSettled design [] c → IsMovable design c → ⊥
settled_stays design c (inl stays) = stays
settled_stays design c (inr has) = absurd (Contains-nil c has)

pub none_settled : (before : DesignModel) (done : List ℕ) (now : DesignModel) → HasSoundRows before → NoneStaying before → LegaliseRun before done now
    → AreMovable before done → NoneSettled now done
none_settled before done now sound staying none are =
    record {
      none = λ fault holds settled.
          staying fault (record {
            holds = holds;
            staying = All-weaker (IsSettled before []) (λ c. IsMovable before c → ⊥) (settled_stays before) (components_of fault) settled;
          });
    }
none_settled before _ _ sound staying (one {done = done} {now = now} {c = c} {component = component} {place = place} run at takes) are =
    let so : IsSoFar before done now = so_far before done now run (earlier_movable before done c are) in
    settled_more now (so.sound sound) done c component place at (so.movable c (last_movable before done c are))
    takes.position takes.free
    (none_settled before done now sound staying run (earlier_movable before done c are))
