-- What the places that are chosen make of a design, and the causes of refusal.
use Rattle.std.proofs.Common.{◌≡◌, List, [], refl, inl, inr}
use Rattle.std.proofs.lemmas.List.Elements.{All-nil}
use Rattle.leg_lemmas.proofs.Contents.{Contains-nil}
use Rattle.leg_lib_records.specs.Sound.{IsSound}
use Rattle.leg_design_records.specs.Records.{DesignModel}
use Rattle.leg_design_records.specs.declared.fault.Fault.{Fault}
use Rattle.leg_design_records.specs.Violation.{IsListOf}
use Rattle.leg_design_records.specs.WellFormed.{IsWellFormed}
use Rattle.leg_rules.specs.Placement.Violations.{IsLegallyPlaced}
use Rattle.leg_legal.specs.declared.fault.LegalFault.{LegalFault}
use Rattle.leg_legal.specs.declared.fault.LegalFault.TheVariants.{FixedIllegal, NoSite, NoRoom, Memory}
use Rattle.leg_legal.specs.declared.taken.Taken.{Taken}
use Rattle.leg_legal.specs.declared.turns.TurnKey.{TurnKey}
use Rattle.leg_legal.specs.Refusals.{IsLegaliseRefusal}
use Rattle.leg_rules.specs.Legalise.Refusals.{IsStayingViolation, NoneStaying, AreSuited}
use Rattle.leg_legal.specs.Steps.AfterPlaces.{CanTake, placed_all}
use Rattle.leg_legal.specs.Steps.TurnKeys.{numbers, AreInOrder}
use Rattle.leg_legal.specs.Steps.Boxes.{AreAllTaken, IsTakingFault}
use Rattle.leg_legal.specs.Steps.Choices.{AreRun, IsRunFault, AreChosen}
use Rattle.leg_legal.proofs.OnRow.{HasSoundRows}
use Rattle.leg_legal.proofs.TheRun.{run_legal, run_same, legal_same}

module _ (design : DesignModel) where
  -- no violation concerns only components that stay
  pub staying_from_none : (faults : List Fault) → IsListOf (IsStayingViolation design) faults → faults ≡ [] → NoneStaying design
  staying_from_none faults list is = λ fault holds. Contains-nil fault (rw is at (list.all fault holds))

  pub chosen_none : (taken : List Taken) → taken ≡ [] → IsWellFormed design → IsLegallyPlaced design → AreChosen design taken
  chosen_none taken is proper legal =
      rw is (record {
        can = All-nil (CanTake design);
        legal = legal;
        same = legal_same design proper legal;
        legalised = inl (legal, refl);
      })

  pub chosen_run : (taken : List Taken) → IsWellFormed design → IsSound design.library → NoneStaying design → (IsLegallyPlaced design → ⊥)
      → AreRun design taken → AreChosen design taken
  chosen_run taken proper sound staying illegal r =
      let rows : HasSoundRows design = record { sites = sound.sites; rows = proper.rows } in
      record {
        can = r.can;
        legal = run_legal design (placed_all design taken) r.order r.is_order r.run rows staying;
        same = run_same design (placed_all design taken) r.order r.is_order r.run;
        legalised = inr (illegal, record { order = r.order; is_order = r.is_order; run = r.run });
      }

  pub run_of_keys : (keys : List TurnKey) (taken : List Taken) → AreInOrder design keys → AreAllTaken design keys taken → AreRun design taken
  run_of_keys keys taken order all = record { can = all.can; order = numbers keys; is_order = order.order; run = all.run }

module _ {A : Type 0} (design : DesignModel) where
  pub run_fault_of : (keys : List TurnKey) (fault : LegalFault A) → AreInOrder design keys → IsTakingFault design (numbers keys) fault → IsRunFault design fault
  run_fault_of keys (FixedIllegal faults) order f = f
  run_fault_of keys (NoSite c) order f = f
  run_fault_of keys (NoRoom c) order f = record { order = numbers keys; is_order = order.order; stuck = f }
  run_fault_of keys Memory order f = tt

  pub refusal_of : (fault : LegalFault A) → NoneStaying design → AreSuited design → (IsLegallyPlaced design → ⊥) → IsRunFault design fault
      → IsLegaliseRefusal design fault
  refusal_of (FixedIllegal faults) staying suited illegal f = absurd f
  refusal_of (NoSite c) staying suited illegal f = absurd f
  refusal_of (NoRoom c) staying suited illegal f = (
    staying,
    suited,
    record {
      illegal = illegal;
      done = f.stuck.done;
      rest = f.stuck.rest;
      is_order = rw f.stuck.is at f.is_order;
      now = f.stuck.now;
      run = f.stuck.run;
      full = f.stuck.full;
    },
  )
  refusal_of Memory staying suited illegal f = tt
