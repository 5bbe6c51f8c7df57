-- What a command may answer: its text, and the status that goes with it.
use Rattle.std.specs.Prelude.{◌≡◌, ◌≢◌, ℕ, ℤ, List, [], ◌∷◌, ◌++◌, ◌⊎◌, Option, None, Some}
use Rattle.std.specs.Io.KnownBytes.{Appends}
use Rattle.leg_lex.specs.declared.read_fault.ReadFault.{ReadFault}
use Rattle.leg_lex.specs.declared.read_fault.FaultKind.TheVariants as kinds
use Rattle.leg_lib_records.specs.declared.scale_fault.ScaleKind.{ScaleKind}
use Rattle.leg_lib_records.specs.declared.scale_fault.ScaleKind.TheVariants as scale
use Rattle.leg_app_input.specs.declared.command.Command.{Command}
use Rattle.leg_app_input.specs.declared.command.Command.TheVariants.{PlaceCheck, Check, Measure, Legalise, Route, Flow, Finish, Print}
use Rattle.leg_app.specs.declared.status.Status.{Status}
use Rattle.leg_app.specs.declared.status.Status.TheVariants.{Success, Violations, Refused, Unsolved, Memory}
use Rattle.leg_lib_records.specs.Records.{LibraryModel}
use Rattle.leg_design_records.specs.Records.{DesignModel}
use Rattle.leg_design_records.specs.declared.fault.Fault.{Fault}
use Rattle.leg_design_records.specs.Violation.{IsListOf}
use Rattle.leg_rules.specs.Metal.Flat.{FlatModel, IsJudgedBy}
use Rattle.leg_rules.specs.Placement.Violations.{IsPlacementViolation}
use Rattle.leg_rules.specs.Wirelength.{IsWirelength}
use Rattle.leg_app.specs.TooManyShapes.{DenoteTooMany}
use Rattle.leg_grammar.specs.declared.profile.Profile.{Profile}
use Rattle.leg_grammar.specs.declared.profile.Profile.TheVariants.{Narrow}
use Rattle.leg_grammar.specs.Texts.{DenoteDesign, DenoteNothing}
use Rattle.leg_rules.specs.Violations.{IsViolation}
use Rattle.leg_app_input.specs.Stream.{HasEndLibrary, IsSplit}
use Rattle.leg_output.specs.Commands.Check.{listing_text, legal_text, wirelength_text, memory_text, no_library_text, refused_text, scale_text, too_many_text}
use Rattle.leg_app.specs.Results.{PrintsMade, ReportsUnsolved}

-- the violations that the command lists: those of placement, or all; the other commands list none
abbrev pub Lists : Command → DesignModel → Fault → Type 0
Lists PlaceCheck design fault = IsPlacementViolation design fault
Lists Check design fault = IsViolation design fault
Lists Measure design fault = ⊥
Lists Legalise design fault = ⊥
Lists Route design fault = ⊥
Lists Flow design fault = ⊥
Lists Finish design fault = ⊥
Lists Print design fault = ⊥

-- the flat that is judged, and whose shapes and pieces the lines name: none, or the design's own; the other commands show
-- none
abbrev pub IsShown : Command → DesignModel → Option FlatModel → Type 0
IsShown PlaceCheck design None = Unit {0}
IsShown PlaceCheck design (Some flat) = ⊥
IsShown Check design None = ⊥
IsShown Check design (Some flat) = IsJudgedBy design flat
IsShown Measure design flat = ⊥
IsShown Legalise design flat = ⊥
IsShown Route design flat = ⊥
IsShown Flow design flat = ⊥
IsShown Finish design flat = ⊥
IsShown Print design flat = ⊥

-- the status and the text for these violations: `legal` where there are none, and else a line for each and their number
abbrev pub IsListing : DesignModel → Option FlatModel → List Fault → Status → List ℕ → Type 0
IsListing design flat violations Success text = (violations ≡ []) × (text ≡ legal_text)
IsListing design flat violations Violations text = (violations ≢ []) × (text ≡ listing_text design flat violations)
IsListing design flat violations Refused text = ⊥
IsListing design flat violations Unsolved text = ⊥
IsListing design flat violations Memory text = ⊥

-- the texts denote a design, and the status and the text list its violations
pub record ListsViolations (command : Command) (profile : Profile) (lefs : List (List ℕ)) (def : List ℕ) (status : Status) (text : List ℕ) : Type 0 where
  pub library : LibraryModel
  pub design : DesignModel
  pub flat : Option FlatModel
  pub violations : List Fault
  pub say : DenoteDesign profile lefs def library design
  pub shown : IsShown command design flat
  pub list : IsListOf (Lists command design) violations
  pub is : IsListing design flat violations status text

-- the texts denote a design, and its wirelength is printed
pub record ReportsWirelength (command : Command) (profile : Profile) (lefs : List (List ℕ)) (def text : List ℕ) : Type 0 where
  pub measures : command ≡ Measure
  pub library : LibraryModel
  pub design : DesignModel
  pub length : ℤ
  pub say : DenoteDesign profile lefs def library design
  pub measured : IsWirelength design length
  pub is : text ≡ wirelength_text length

-- a fault of the texts is printed
pub record ReportsFault (text : List ℕ) : Type 0 where
  pub fault : ReadFault
  pub not_memory : fault.kind ≢ kinds.Memory
  pub is : text ≡ refused_text fault

pub record ReportsScale (text : List ℕ) : Type 0 where
  pub name : List ℕ
  pub kind : ScaleKind
  pub not_memory : kind ≢ scale.Memory
  pub is : text ≡ scale_text name kind

-- the texts denote no design, and a reason is printed
pub record ReportsRefusal (profile : Profile) (lefs : List (List ℕ)) (def text : List ℕ) : Type 0 where
  pub nothing : DenoteNothing profile lefs def
  pub reason : ReportsFault text ⊎ ReportsScale text

-- they denote one with more shapes than a flat may have
pub record ReportsTooMany (command : Command) (profile : Profile) (lefs : List (List ℕ)) (def text : List ℕ) : Type 0 where
  pub flattens : command ≡ Check
  pub many : DenoteTooMany profile lefs def
  pub is : text ≡ too_many_text

-- The text and the status are an answer of the command to these texts.
abbrev pub IsAnswer : Command → Profile → List (List ℕ) → List ℕ → Status → List ℕ → Type 0
IsAnswer command profile lefs def Success text =
    ListsViolations command profile lefs def Success text ⊎ (ReportsWirelength command profile lefs def text ⊎ PrintsMade command profile lefs def text)
IsAnswer command profile lefs def Violations text = ListsViolations command profile lefs def Violations text
IsAnswer command profile lefs def Refused text = ReportsRefusal profile lefs def text ⊎ ReportsTooMany command profile lefs def text
IsAnswer command profile lefs def Unsolved text = ReportsUnsolved command profile lefs def text
IsAnswer command profile lefs def Memory text = text ≡ memory_text

-- A writer took a whole answer of this status: what it holds, where it shows its bytes, grew by the text.
pub record TakesAnswer (Answers : Status → List ℕ → Type 0) (status : Status) (before after : Option (List ℕ)) : Type 0 where
  pub text : List ℕ
  pub answer : Answers status text
  pub appends : Appends before after text

-- it took a prefix of the text, and a byte at least is left over
pub record TakesFront (text : List ℕ) (before after : Option (List ℕ)) : Type 0 where
  pub front : List ℕ
  pub left : List ℕ
  pub cut : text ≡ front ++ left
  pub some : left ≢ []
  pub appends : Appends before after front

-- A writer took a prefix of an answer.
pub record TakesPart (Answers : Status → List ℕ → Type 0) (before after : Option (List ℕ)) : Type 0 where
  pub status : Status
  pub text : List ℕ
  pub answer : Answers status text
  pub front : TakesFront text before after

-- The text and the status are an answer to a stream: what `check` answers to its LEF and its DEF, or that no LEF ends in it.
pub record AnswersParts (stream : List ℕ) (status : Status) (text : List ℕ) : Type 0 where
  pub lef : List ℕ
  pub def : List ℕ
  pub split : IsSplit stream lef def
  pub answer : IsAnswer Check Narrow (lef ∷ []) def status text

pub record ReportsNoLibrary (stream : List ℕ) (status : Status) (text : List ℕ) : Type 0 where
  pub none : ¬ HasEndLibrary stream
  pub refused : status ≡ Refused
  pub is : text ≡ no_library_text

abbrev pub IsStreamAnswer : List ℕ → Status → List ℕ → Type 0
IsStreamAnswer stream status text = AnswersParts stream status text ⊎ ReportsNoLibrary stream status text

-- the exit status of a run
abbrev pub exit_code : Status → ℕ
exit_code Success = 0
exit_code Violations = 1
exit_code Refused = 2
exit_code Unsolved = 3
exit_code Memory = 4
