-- What is answered where two DEFs are compared.
use Rattle.std.proofs.Common.{◌≡◌, ◌≢◌, ◌↔◌, ℕ, Bool, false, List, ◌⊎◌, inl, inr, refl, sym, ◌∙◌, subst}
use Rattle.std.proofs.lemmas.Bool.{false≢true}
use Rattle.std.specs.Prelude.{IsTrue}
use Rattle.leg_lex.specs.Word.{texts}
use Rattle.leg_lex.specs.Denotes.{Denotes}
use Rattle.leg_lex.proofs.Denotations.{says_one}
use Rattle.leg_lib_records.specs.Records.{LibraryModel}
use Rattle.leg_design_records.specs.Records.{DesignModel}
use Rattle.leg_grammar.specs.declared.profile.Profile.{Profile}
use Rattle.leg_grammar.specs.Def.Header.{units_in}
use Rattle.leg_grammar.specs.Def.Form.{design_in}
use Rattle.leg_rules.specs.declared.difference.Section.{Section}
use Rattle.leg_rules.specs.declared.difference.Difference.{Difference}
use Rattle.leg_rules.specs.declared.difference.Verdict.{Verdict}
use Rattle.leg_rules.specs.declared.difference.Verdict.TheVariants.{Same, Places, Wires, PlacesAndWires, Differs}
use Rattle.leg_rules.specs.Compare.EntryOrder.{HaveOtherOrder}
use Rattle.leg_rules.specs.Compare.Order.{AreAllDifferences}
use Rattle.leg_rules.specs.Compare.Verdicts.{IsVerdict}
use Rattle.leg_app.specs.declared.status.Status.{Status}
use Rattle.leg_app.specs.declared.status.Status.TheVariants.{Success}
use Rattle.leg_app.specs.declared.compare_end.Side.{Side}
use Rattle.leg_app.specs.declared.compare_end.Side.TheVariants.{Before, After}
use Rattle.leg_grammar.specs.Texts.{DenoteLibraryFor, DenoteDesign, DenoteNothing}
use Rattle.leg_app.specs.Steps.OneLibrary.{DenotesJust}
use Rattle.leg_output.specs.Commands.Compare.{comparison_text}
use Rattle.leg_app.specs.Reason.{HasNoReason}
use Rattle.leg_app.specs.Comparison.{status_of, def_of, Compares, IsComparison, DenoteOtherOrder, TellsOrder}
use Rattle.leg_app.proofs.Denotations.{design_has_library}

-- a library is denoted with another DEF too, if that has its units
for_other : (profile : Profile) (lefs : List (List ℕ)) (def other : List ℕ) (library : LibraryModel) → Denotes units_in other library.units
    → DenoteLibraryFor profile lefs def library
    → DenoteLibraryFor profile lefs other library
for_other profile lefs def other library units say = record {
  raw = say.raw;
  units = say.units;
  lef = say.lef;
  unit = subst (Denotes units_in other) say.scaled.units units;
  scaled = say.scaled;
}

-- and it is the only one, if it is with the one DEF
pub just_other : (profile : Profile) (lefs : List (List ℕ)) (def other : List ℕ) (library : LibraryModel) → Denotes units_in other library.units
    → DenotesJust profile lefs def library
    → DenotesJust profile lefs other library
just_other profile lefs def other library units just = record {
  found = for_other profile lefs def other library units just.found;
  only = λ said say.
      just.only said
      (for_other profile lefs other def said
      (subst (Denotes units_in def) (sym (say.scaled.units
      ∙ (says_one units_in other say.units library.units say.unit units ∙ just.found.scaled.units))) just.found.unit)
      say);
}

-- under the one library that is denoted the DEF denotes a design
pub say_design : (profile : Profile) (lefs : List (List ℕ)) (def : List ℕ) (library : LibraryModel) (design : DesignModel)
    → DenotesJust profile lefs def library
    → Denotes (design_in profile library) def design → DenoteDesign profile lefs def library design
say_design profile lefs def library design just says = record { under = just.found; said = says }

pub library_of : (profile : Profile) (library : LibraryModel) (def : List ℕ) (design : DesignModel) → Denotes (design_in profile library) def design
    → design.library ≡ library
library_of profile library def design says = (design_has_library profile library (texts says.words)).given design says.reads

-- where one of the DEFs denotes nothing
pub nothing_of : (side : Side) (profile : Profile) (lefs : List (List ℕ)) (before after : List ℕ) → DenoteNothing profile lefs (def_of side before after)
    → DenoteNothing profile lefs before ⊎ DenoteNothing profile lefs after
nothing_of Before profile lefs before after nothing = inl nothing
nothing_of After profile lefs before after nothing = inr nothing

-- a comparison has no reason
pub no_reason_of : (verdict : Verdict) → HasNoReason (status_of verdict)
no_reason_of Same = tt
no_reason_of (Places moves) = tt
no_reason_of (Wires growths) = tt
no_reason_of (PlacesAndWires moves growths) = tt
no_reason_of (Differs count) = tt

module _ (profile : Profile) (lefs : List (List ℕ)) (before after : List ℕ) (library : LibraryModel) (first second : DesignModel) (list : List Difference)
    (text : List ℕ)
    (say_first : DenoteDesign profile lefs before library first) (say_second : DenoteDesign profile lefs after library second)
    (all : AreAllDifferences first second list) where
  compares : (verdict : Verdict) → IsVerdict first list verdict → text ≡ comparison_text first second list verdict
      → Compares profile lefs before after (status_of verdict) text
  compares verdict judged is = record {
    library = library;
    first = first;
    second = second;
    list = list;
    verdict = verdict;
    say_first = say_first;
    say_second = say_second;
    all = all;
    judged = judged;
    status_is = refl;
    is = is;
  }

  -- all differences and the verdict on them are an answer
  pub compared : (verdict : Verdict) → IsVerdict first list verdict → text ≡ comparison_text first second list verdict
      → IsComparison profile lefs before after (status_of verdict) text
  compared Same judged is = compares Same judged is
  compared (Places moves) judged is = inl (compares (Places moves) judged is)
  compared (Wires growths) judged is = inl (compares (Wires growths) judged is)
  compared (PlacesAndWires moves growths) judged is = inl (compares (PlacesAndWires moves growths) judged is)
  compared (Differs count) judged is = inl (compares (Differs count) judged is)

-- under the one library that is denoted the DEF denotes no other design
only_said : (profile : Profile) (lefs : List (List ℕ)) (def : List ℕ) (library other : LibraryModel) (design said : DesignModel)
    → DenotesJust profile lefs def library
    → Denotes (design_in profile library) def design → DenoteDesign profile lefs def other said → said ≡ design
only_said profile lefs def library other design said just says say =
    says_one (design_in profile library) def said design (subst (λ l. Denotes (design_in profile l) def said) (just.only other say.under) say.said) says

module _ (profile : Profile) (lefs : List (List ℕ)) (before after : List ℕ) (library : LibraryModel) (first second : DesignModel)
    (just_before : DenotesJust profile lefs before library) (says_first : Denotes (design_in profile library) before first)
    (just_after : DenotesJust profile lefs after library) (says_second : Denotes (design_in profile library) after second) where
  -- another order of the designs is one of those that the texts denote
  same_order : (section : Section) → DenoteOtherOrder section profile lefs before after → HaveOtherOrder section first second
  same_order section told =
      subst (λ d. HaveOtherOrder section first d) (only_said profile lefs after library told.library second told.second just_after says_second told.say_second)
      (subst (λ d. HaveOtherOrder section d told.second) (only_said profile lefs before library told.library first told.first just_before says_first
      told.say_first)
      told.order)

  pub tells_of : (section : Section) (status : Status) (told : Bool) → (IsTrue told ↔ ((status ≡ Success) × HaveOtherOrder section first second))
      → IsTrue told ↔ ((status ≡ Success) × DenoteOtherOrder section profile lefs before after)
  tells_of section status told just = (
    λ is. (
      (just.0 is).0,
      record {
        library = library;
        first = first;
        second = second;
        say_first = say_design profile lefs before library first just_before says_first;
        say_second = say_design profile lefs after library second just_after says_second;
        order = (just.0 is).1;
      },
    ),
    λ both. just.1 (both.0, same_order section both.1),
  )

-- where something differs, or nothing is compared, no other order is told
pub tells_none : (profile : Profile) (lefs : List (List ℕ)) (before after : List ℕ) (status : Status) → status ≢ Success
    → TellsOrder profile lefs before after status (record { components = false; nets = false })
tells_none profile lefs before after status other = record {
  components = (λ is. absurd (false≢true is), λ both. absurd (other both.0));
  nets = (λ is. absurd (false≢true is), λ both. absurd (other both.0));
}
