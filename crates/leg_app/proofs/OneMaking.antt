-- What legalising makes of a design is printed in one way, or why it makes nothing is, and not both.
use Rattle.std.proofs.Common.{◌≡◌, ◌≢◌, ◌⊎◌, ℕ, List, [], Option, inl, inr, refl, sym, ap, ◌∙◌}
use Rattle.leg_design_records.specs.Records.{DesignModel}
use Rattle.leg_rules.specs.Metal.Flat.{FlatModel}
use Rattle.leg_legal.specs.declared.fault.LegalFault.{LegalFault}
use Rattle.leg_legal.specs.declared.fault.LegalFault.TheVariants.{FixedIllegal, NoSite, NoRoom, Memory}
use Rattle.leg_rules.specs.Legalise.Moves.{AreMoves}
use Rattle.leg_legal.specs.Refusals.{IsLegaliseRefusal}
use Rattle.leg_legal.proofs.OneOutcome.{one_design, one_list_of_moves, one_cause, no_outcome}
use Rattle.leg_app_input.specs.declared.command.Command.{Command}
use Rattle.leg_app_input.specs.declared.command.Command.TheVariants.{PlaceCheck, Check, Measure, Legalise, Route, Flow, Finish, Print}
use Rattle.leg_output.specs.Commands.Legalise.{legalised_text, fixed_illegal_text, no_site_text, no_room_text}
use Rattle.leg_app.specs.LegaliseResult.{PrintsLegalised, ReportsNotLegalised}
use Rattle.leg_app.specs.LegaliseResult.ReportsNotLegalised.{fixed_illegal, no_site, no_room}
use Rattle.leg_app.specs.Results.{IsTextMade, IsReason}
use Rattle.leg_app.specs.Answer.{IsShown}

-- a cause of refusal, of whatever allocator
abbrev Cause : Type 0
Cause = LegalFault (Unit {0})

-- what is told of it
abbrev cause_text : DesignModel → Cause → List ℕ
cause_text design (FixedIllegal violations) = fixed_illegal_text design violations
cause_text design (NoSite c) = no_site_text design c
cause_text design (NoRoom c) = no_room_text design c
cause_text design Memory = []

record TellsCause (design : DesignModel) (text : List ℕ) : Type 0 where
  cause : Cause
  refused : IsLegaliseRefusal design cause
  kept : cause ≢ Memory
  is : text ≡ cause_text design cause

cause_told : (design : DesignModel) (text : List ℕ) → ReportsNotLegalised design text → TellsCause design text
cause_told design text (fixed_illegal {violations = violations} list some is) =
    record { cause = FixedIllegal violations; refused = (list, some); kept = λ same. cc; is = is }
cause_told design text (no_site {c = c} illegal staying least is) =
    record { cause = NoSite c; refused = (illegal, staying, least); kept = λ same. cc; is = is }
cause_told design text (no_room {c = c} staying suited stuck is) =
    record { cause = NoRoom c; refused = (staying, suited, stuck); kept = λ same. cc; is = is }

module _ (design : DesignModel) (text words : List ℕ) where
  -- one reason is told
  one_reason : ReportsNotLegalised design text → ReportsNotLegalised design words → text ≡ words
  one_reason p q =
      let told = cause_told design text p in
      let also = cause_told design words q in
      let causes : told.cause ≡ also.cause = one_cause design told.cause also.cause told.refused also.refused told.kept also.kept in
      told.is ∙ ap (cause_text design) causes ∙ sym also.is

  -- one legalised design is printed, with one list of moves
  one_legalised : PrintsLegalised design text → PrintsLegalised design words → text ≡ words
  one_legalised p q =
      let designs : p.legalised ≡ q.legalised = one_design design p.legalised q.legalised p.legalises.run q.legalises.run in
      let moves : AreMoves design q.legalised p.distances p.total p.greatest = rw designs at p.moves in
      let same = one_list_of_moves design q.legalised q.legalises.same.count p.distances q.distances p.total q.total p.greatest q.greatest moves q.moves in
      p.is ∙ (λ i. legalised_text (designs i) (same.0 i) (same.1 i) (same.2 i)) ∙ sym q.is

  -- not both
  legalised_or_not : PrintsLegalised design text → ReportsNotLegalised design words → ⊥
  legalised_or_not p q =
      let told = cause_told design words q in
      no_outcome design p.legalised told.cause told.refused told.kept p.legalises.run p.legalises.legal

-- the same by command, but for those that route
pub one_made : (command : Command) (design : DesignModel) (text words : List ℕ) → command ≢ Route → command ≢ Flow → command ≢ Finish
    → IsTextMade command design text → IsTextMade command design words → text ≡ words
one_made PlaceCheck design text words first second third p q = absurd p
one_made Check design text words first second third p q = absurd p
one_made Measure design text words first second third p q = absurd p
one_made Legalise design text words first second third p q = one_legalised design text words p q
one_made Route design text words first second third p q = absurd (first refl)
one_made Flow design text words first second third p q = absurd (second refl)
one_made Finish design text words first second third p q = absurd (third refl)
one_made Print design text words first second third p q = p.is ∙ sym q.is

pub one_reason_told : (command : Command) (design : DesignModel) (text words : List ℕ) → command ≢ Route → command ≢ Flow → command ≢ Finish
    → IsReason command design text → IsReason command design words → text ≡ words
one_reason_told PlaceCheck design text words first second third p q = absurd p
one_reason_told Check design text words first second third p q = absurd p
one_reason_told Measure design text words first second third p q = absurd p
one_reason_told Legalise design text words first second third p q = one_reason design text words p q
one_reason_told Route design text words first second third p q = absurd (first refl)
one_reason_told Flow design text words first second third p q = absurd (second refl)
one_reason_told Finish design text words first second third p q = absurd (third refl)
one_reason_told Print design text words first second third p q = absurd p

pub made_or_not : (command : Command) (design : DesignModel) (text words : List ℕ) → command ≢ Route → command ≢ Flow → command ≢ Finish
    → IsTextMade command design text → IsReason command design words → ⊥
made_or_not PlaceCheck design text words first second third p q = p
made_or_not Check design text words first second third p q = p
made_or_not Measure design text words first second third p q = p
made_or_not Legalise design text words first second third p q = legalised_or_not design text words p q
made_or_not Route design text words first second third p q = first refl
made_or_not Flow design text words first second third p q = second refl
made_or_not Finish design text words first second third p q = third refl
made_or_not Print design text words first second third p q = q

-- what a command makes of a design, or why it makes nothing of it
abbrev pub IsOutcome : Command → DesignModel → List ℕ → Type 0
IsOutcome command design text = IsTextMade command design text ⊎ IsReason command design text

-- a command that lists violations has no such outcome, nor has the one that measures
pub shown_or_made : (command : Command) (design other : DesignModel) (flat : Option FlatModel) (text : List ℕ)
    → IsShown command design flat → IsOutcome command other text → ⊥
shown_or_made PlaceCheck design other flat text shown (inl made) = made
shown_or_made PlaceCheck design other flat text shown (inr reason) = reason
shown_or_made Check design other flat text shown (inl made) = made
shown_or_made Check design other flat text shown (inr reason) = reason
shown_or_made Measure design other flat text shown outcome = shown
shown_or_made Legalise design other flat text shown outcome = shown
shown_or_made Route design other flat text shown outcome = shown
shown_or_made Flow design other flat text shown outcome = shown
shown_or_made Finish design other flat text shown outcome = shown
shown_or_made Print design other flat text shown outcome = shown

pub no_outcome_of_measure : (design : DesignModel) (text : List ℕ) → IsOutcome Measure design text → ⊥
no_outcome_of_measure design text (inl made) = made
no_outcome_of_measure design text (inr reason) = reason

pub no_outcome_of_check : (design : DesignModel) (text : List ℕ) → IsOutcome Check design text → ⊥
no_outcome_of_check design text (inl made) = made
no_outcome_of_check design text (inr reason) = reason
