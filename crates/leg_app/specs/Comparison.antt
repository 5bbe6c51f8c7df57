-- What `compare` may answer to two DEFs after the same LEFs (lefdef's own rules): its text, the status that goes with it, and the reason
-- where the DEFs are not compared.
use Rattle.std.specs.Prelude.{◌≡◌, ◌≢◌, ◌↔◌, ℕ, ◌+◌, List, ◌⊎◌, Option, None, Some, IsTrue}
use Rattle.leg_lex.specs.declared.read_fault.FaultKind.TheVariants as kinds
use Rattle.leg_lib_records.specs.Records.{LibraryModel}
use Rattle.leg_design_records.specs.Records.{DesignModel}
use Rattle.leg_rules.specs.declared.difference.Section.{Section}
use Rattle.leg_rules.specs.declared.difference.Section.TheVariants.{Components, Nets}
use Rattle.leg_rules.specs.declared.difference.Difference.{Difference}
use Rattle.leg_rules.specs.declared.difference.Verdict.{Verdict}
use Rattle.leg_rules.specs.declared.difference.Verdict.TheVariants.{Same, Places, Wires, PlacesAndWires, Differs}
use Rattle.leg_rules.specs.declared.other_order.OtherOrder.{OtherOrder}
use Rattle.leg_rules.specs.Compare.EntryOrder.{HaveOtherOrder}
use Rattle.leg_rules.specs.Compare.Order.{AreAllDifferences}
use Rattle.leg_rules.specs.Compare.Verdicts.{IsVerdict}
use Rattle.leg_app_reason.specs.declared.reason.Reason.{Reason}
use Rattle.leg_app_reason.specs.declared.reason.Reason.TheVariants.{Read, NoLibrary, Scale, TooMany, FixedIllegal, NoSite, NoRoom, NotClean, GridTooLarge, Unroutable, Unreachable, Unfinished}
use Rattle.leg_app.specs.declared.status.Status.{Status}
use Rattle.leg_app.specs.declared.status.Status.TheVariants.{Success, Violations, Refused, Unsolved, Memory}
use Rattle.leg_app.specs.declared.compare_end.Side.{Side}
use Rattle.leg_app.specs.declared.compare_end.Side.TheVariants.{Before, After}
use Rattle.leg_app.specs.declared.compare_end.ComparisonReason.{ComparisonReason}
use Rattle.leg_grammar.specs.declared.profile.Profile.{Profile}
use Rattle.leg_grammar.specs.Texts.{DenoteDesign, DenoteNothing}
use Rattle.leg_output.specs.Commands.Check.{memory_text, refused_line}
use Rattle.leg_output.specs.Commands.Compare.{comparison_text, units_text}
use Rattle.leg_app.specs.Answer.{ReportsFault, ReportsScale}
use Rattle.leg_app.specs.Reason.{ReportsReason, AreNotRead, AreNotScaled, HasReason, HasNoReason}

-- success where the designs are the same
abbrev pub status_of : Verdict → Status
status_of Same = Success
status_of (Places moves) = Violations
status_of (Wires growths) = Violations
status_of (PlacesAndWires moves growths) = Violations
status_of (Differs count) = Violations

-- the DEFs denote designs of one library, and all that differs between them is printed
pub record Compares (profile : Profile) (lefs : List (List ℕ)) (before after : List ℕ) (status : Status) (text : List ℕ) : Type 0 where
  pub library : LibraryModel
  pub first : DesignModel
  pub second : DesignModel
  pub list : List Difference
  pub verdict : Verdict
  pub say_first : DenoteDesign profile lefs before library first
  pub say_second : DenoteDesign profile lefs after library second
  pub all : AreAllDifferences first second list
  pub judged : IsVerdict first list verdict
  pub status_is : status ≡ status_of verdict
  pub is : text ≡ comparison_text first second list verdict

-- they denote designs at other units, and that is printed
pub record HasOtherUnits (profile : Profile) (lefs : List (List ℕ)) (before after text : List ℕ) : Type 0 where
  pub library : LibraryModel
  pub other : LibraryModel
  pub first : DesignModel
  pub second : DesignModel
  pub say_first : DenoteDesign profile lefs before library first
  pub say_second : DenoteDesign profile lefs after other second
  pub apart : library.units ≢ other.units
  pub is : text ≡ units_text

-- the LEFs and one of the DEFs denote no design, and a reason is printed
pub record ReportsNotCompared (profile : Profile) (lefs : List (List ℕ)) (before after text : List ℕ) : Type 0 where
  pub nothing : DenoteNothing profile lefs before ⊎ DenoteNothing profile lefs after
  pub reason : ReportsFault text ⊎ ReportsScale text

-- The text and the status are an answer of `compare` to these texts.
abbrev pub IsComparison : Profile → List (List ℕ) → List ℕ → List ℕ → Status → List ℕ → Type 0
IsComparison profile lefs before after Success text = Compares profile lefs before after Success text
IsComparison profile lefs before after Violations text = Compares profile lefs before after Violations text ⊎ HasOtherUnits profile lefs before after text
IsComparison profile lefs before after Refused text = ReportsNotCompared profile lefs before after text
IsComparison profile lefs before after Unsolved text = ⊥
IsComparison profile lefs before after Memory text = text ≡ memory_text

abbrev pub def_of : Side → List ℕ → List ℕ → List ℕ
def_of Before before after = before
def_of After before after = after

-- The number that is printed of a text: the second DEF follows the first one, which follows the LEFs.
abbrev pub printed_number : Side → ℕ → ℕ
printed_number Before file = file
printed_number After file = file + 1

-- The text tells the reason, which is of this DEF.
abbrev pub ReportsOf : {A : Type 0} → Side → Reason A → List ℕ → Type 0
ReportsOf side (Read fault master) text =
    (fault.kind ≢ kinds.Memory) × (text ≡ refused_line (printed_number side fault.file) fault.line fault.kind)
ReportsOf side reason text = ReportsReason reason text

-- The reason is that one of the LEFs and this DEF is not read, or that a length is none in the DEF's units; what it says besides is so.
abbrev pub IsSoOf : {A : Type 0} → Profile → List (List ℕ) → List ℕ → Reason A → Type 0
IsSoOf profile lefs def (Read fault master) = AreNotRead profile lefs def fault.need master
IsSoOf profile lefs def NoLibrary = ⊥
IsSoOf profile lefs def (Scale fault units) = AreNotScaled profile lefs def units
IsSoOf profile lefs def TooMany = ⊥
IsSoOf profile lefs def FixedIllegal = ⊥
IsSoOf profile lefs def (NoSite component) = ⊥
IsSoOf profile lefs def (NoRoom component) = ⊥
IsSoOf profile lefs def (NotClean stage) = ⊥
IsSoOf profile lefs def (GridTooLarge limit) = ⊥
IsSoOf profile lefs def (Unroutable net piece) = ⊥
IsSoOf profile lefs def (Unreachable net piece) = ⊥
IsSoOf profile lefs def Unfinished = ⊥

-- The status goes with the reason, the text tells it, and what it says besides is so.
abbrev pub ExplainsComparison : {A : Type 0} → Profile → List (List ℕ) → List ℕ → List ℕ → Status → Option (ComparisonReason A) → List ℕ → Type 0
ExplainsComparison profile lefs before after status None text = HasNoReason status
ExplainsComparison profile lefs before after status (Some reason) text =
    HasReason status × ReportsOf reason.side reason.reason text × IsSoOf profile lefs (def_of reason.side before after) reason.reason

-- The DEFs denote designs of one library, and in these the entries of the section stand in another order.
pub record DenoteOtherOrder (section : Section) (profile : Profile) (lefs : List (List ℕ)) (before after : List ℕ) : Type 0 where
  pub library : LibraryModel
  pub first : DesignModel
  pub second : DesignModel
  pub say_first : DenoteDesign profile lefs before library first
  pub say_second : DenoteDesign profile lefs after library second
  pub order : HaveOtherOrder section first second

-- Of COMPONENTS, and of NETS, another order is told if and only if nothing differs and the entries stand in another order.
pub record TellsOrder (profile : Profile) (lefs : List (List ℕ)) (before after : List ℕ) (status : Status) (order : OtherOrder) : Type 0 where
  pub components : IsTrue order.components ↔ ((status ≡ Success) × DenoteOtherOrder Components profile lefs before after)
  pub nets : IsTrue order.nets ↔ ((status ≡ Success) × DenoteOtherOrder Nets profile lefs before after)

-- The text and the status are an answer of `compare` to these texts, this is its reason, and this is told of the order of entries.
pub record IsComparisonExplained {A : Type 0} (profile : Profile) (lefs : List (List ℕ)) (before after : List ℕ) (reason : Option (ComparisonReason A))
    (order : OtherOrder)
    (status : Status) (text : List ℕ) : Type 0 where
  pub answer : IsComparison profile lefs before after status text
  pub explains : ExplainsComparison profile lefs before after status reason text
  pub tells : TellsOrder profile lefs before after status order
