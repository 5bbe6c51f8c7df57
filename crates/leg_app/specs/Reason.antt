-- The reason for which a command prints no design, list or length: what is printed of it, and what is so of the texts.
use Rattle.std.specs.Prelude.{◌≡◌, ◌≢◌, ℕ, List, [], ◌∷◌, ◌++◌, Option, None, Some, option_map, slice_get, codes, decimal}
use Rattle.leg_lex.specs.Denotes.{Denotes}
use Rattle.leg_lex.specs.declared.read_fault.FaultKind.TheVariants as kinds
use Rattle.leg_lex.specs.declared.read_fault.Need.{Need}
use Rattle.leg_lex.specs.declared.read_fault.Need.TheVariants as needs
use Rattle.leg_lib_records.specs.declared.scale_fault.ScaleKind.TheVariants as scale
use Rattle.leg_lib_records.specs.Records.{LibraryModel, MasterModel}
use Rattle.leg_design_records.specs.Records.{DesignModel}
use Rattle.leg_grammar.specs.declared.profile.Profile.{Profile}
use Rattle.leg_grammar.specs.declared.profile.Profile.TheVariants.{Narrow}
use Rattle.leg_grammar.specs.Def.Header.{units_in}
use Rattle.leg_rules.specs.Metal.Flat.{FlatModel, IsFlatOf}
use Rattle.leg_rules.specs.declared.grid_limits.TheConstants.{GRID_LIMIT, GREATEST_GRID}
use Rattle.leg_rules.specs.Route.Refusals.{IsUnroutable}
use Rattle.leg_rules.specs.Route.Refusal.{ComesToRun}
use Rattle.leg_rules.specs.Finish.Reach.{IsFirstOfNetIfAny, IsFirstUnreachable}
use Rattle.leg_rules.specs.Finish.Refusal.{ComesToSearch}
use Rattle.leg_output.specs.Names.{piece_text}
use Rattle.leg_design_records.specs.Names.{net_name, name_by}
use Rattle.leg_output.specs.Lines.{piece_at}
use Rattle.leg_app_input.specs.declared.command.Command.{Command}
use Rattle.leg_app_input.specs.declared.command.Command.TheVariants.{PlaceCheck, Check, Measure, Legalise, Route, Flow, Finish, Print}
use Rattle.leg_app_reason.specs.declared.reason.Stage.{Stage}
use Rattle.leg_app_reason.specs.declared.reason.Stage.TheVariants.{Given, Legalised}
use Rattle.leg_app_reason.specs.declared.reason.Reason.{Reason}
use Rattle.leg_app_reason.specs.declared.reason.Reason.TheVariants.{Read, NoLibrary, Scale, TooMany, FixedIllegal, NoSite, NoRoom, NotClean, GridTooLarge, Unroutable, Unreachable, Unfinished}
use Rattle.leg_app_input.specs.Stream.{HasEndLibrary, IsSplit}
use Rattle.leg_app.specs.declared.status.Status.{Status}
use Rattle.leg_app.specs.declared.status.Status.TheVariants.{Success, Violations, Refused, Unsolved, Memory}
use Rattle.leg_grammar.specs.Texts.{DenoteLibraryFor, DenoteDesign, DenoteNothing}
use Rattle.leg_app.specs.LegaliseResult.{Legalises}
use Rattle.leg_output.specs.Commands.Check.{refused_text, scale_text, too_many_text, no_library_text}
use Rattle.leg_output.specs.Commands.Route.{grid_too_large_text}
use Rattle.leg_app.specs.Answer.{IsAnswer, IsStreamAnswer}

-- its last line has this word and a number
abbrev pub EndsIn : List ℕ → List ℕ → Type 0
EndsIn word text = (lines : List ℕ) × (number : ℕ) × (text ≡ lines ++ word ++ decimal number ++ codes "\n")

-- The text tells the reason.
abbrev pub ReportsReason : {A : Type 0} → Reason A → List ℕ → Type 0
ReportsReason (Read fault master) text = (fault.kind ≢ kinds.Memory) × (text ≡ refused_text fault)
ReportsReason NoLibrary text = text ≡ no_library_text
ReportsReason (Scale fault units) text = (fault.kind ≢ scale.Memory) × (text ≡ scale_text fault.name fault.kind)
ReportsReason TooMany text = text ≡ too_many_text
ReportsReason FixedIllegal text = EndsIn (codes "FIXEDILLEGAL ") text
ReportsReason (NoSite component) text = text ≡ codes "NOSITE " ++ component ++ codes "\n"
ReportsReason (NoRoom component) text = text ≡ codes "NOROOM " ++ component ++ codes "\n"
ReportsReason (NotClean stage) text = EndsIn (codes "NOTCLEAN ") text
ReportsReason (GridTooLarge limit) text = text ≡ grid_too_large_text
ReportsReason (Unroutable net piece) text = text ≡ codes "UNROUTABLE " ++ net ++ codes "\n"
ReportsReason (Unreachable net piece) text = text ≡ codes "UNREACHABLE " ++ net ++ codes " " ++ piece ++ codes "\n"
ReportsReason Unfinished text = EndsIn (codes "unfinished ") text

-- the first piece of the net of this number that cannot be reached whatever other nets do; none where each can be
pub record IsCutOff (design : DesignModel) (net : ℕ) (piece : Option (List ℕ)) : Type 0 where
  pub flat : FlatModel
  pub first : Option ℕ
  pub is_flat : IsFlatOf design flat
  pub is_first : IsFirstOfNetIfAny design flat net first
  pub is : piece ≡ option_map (λ k. name_by (piece_text design) (piece_at (Some flat) net k)) first

-- the net at whose turn no open walk leads on has this name, and this piece of that very net is cut off, if one is
pub record IsUnroutableNet (design : DesignModel) (name : List ℕ) (piece : Option (List ℕ)) : Type 0 where
  pub net : ℕ
  pub flat : FlatModel
  pub comes : ComesToRun design flat
  pub unroutable : IsUnroutable design flat net
  pub named : name ≡ net_name design net
  pub cut_off : IsCutOff design net piece

-- the first piece of all nets that cannot be reached whatever other nets do has the second name, and its net the first one
pub record IsUnreachablePiece (design : DesignModel) (name piece : List ℕ) : Type 0 where
  pub net : ℕ
  pub number : ℕ
  pub flat : FlatModel
  pub comes : ComesToSearch design flat
  pub is_first : IsFirstUnreachable design flat net number
  pub named : name ≡ net_name design net
  pub is : piece ≡ name_by (piece_text design) (piece_at (Some flat) net number)

-- What the reason says besides is so, where the design that is to be routed is such a one, at this stage, under this limit of grids. It
-- is none of the reasons for which texts are not read.
abbrev pub IsSoAtStage : {A : Type 0} → Stage → ℕ → (DesignModel → Type 0) → Reason A → Type 0
IsSoAtStage stage limit IsRouted (Read fault master) = ⊥
IsSoAtStage stage limit IsRouted NoLibrary = ⊥
IsSoAtStage stage limit IsRouted (Scale fault units) = ⊥
IsSoAtStage stage limit IsRouted TooMany = Unit {0}
IsSoAtStage stage limit IsRouted FixedIllegal = Unit {0}
IsSoAtStage stage limit IsRouted (NoSite component) = Unit {0}
IsSoAtStage stage limit IsRouted (NoRoom component) = Unit {0}
IsSoAtStage stage limit IsRouted (NotClean at) = at ≡ stage
IsSoAtStage stage limit IsRouted (GridTooLarge most) = most ≡ limit
IsSoAtStage stage limit IsRouted (Unroutable net piece) = (design : DesignModel) × IsRouted design × IsUnroutableNet design net piece
IsSoAtStage stage limit IsRouted (Unreachable net piece) = (design : DesignModel) × IsRouted design × IsUnreachablePiece design net piece
IsSoAtStage stage limit IsRouted Unfinished = Unit {0}

-- which design a command routes
abbrev pub stage_of : Command → Stage
stage_of PlaceCheck = Given
stage_of Check = Given
stage_of Measure = Given
stage_of Legalise = Given
stage_of Route = Given
stage_of Flow = Legalised
stage_of Finish = Given
stage_of Print = Given

abbrev pub IsRoutedBy : Command → DesignModel → DesignModel → Type 0
IsRoutedBy PlaceCheck design routed = ⊥
IsRoutedBy Check design routed = ⊥
IsRoutedBy Measure design routed = ⊥
IsRoutedBy Legalise design routed = ⊥
IsRoutedBy Route design routed = design ≡ routed
IsRoutedBy Flow design routed = Legalises design routed
IsRoutedBy Finish design routed = design ≡ routed
IsRoutedBy Print design routed = ⊥

-- how many tracks, and slots of the grid, the command takes at most
abbrev pub grid_limit : Command → ℕ
grid_limit PlaceCheck = 0
grid_limit Check = 0
grid_limit Measure = 0
grid_limit Legalise = 0
grid_limit Route = GRID_LIMIT
grid_limit Flow = GRID_LIMIT
grid_limit Finish = GREATEST_GRID
grid_limit Print = 0

-- what the reason of a command over this design says besides is so
abbrev pub IsSoOfDesign : {A : Type 0} → Command → DesignModel → Reason A → Type 0
IsSoOfDesign command design reason = IsSoAtStage (stage_of command) (grid_limit command) (IsRoutedBy command design) reason

-- the macro whose pin a fault needs, if it needs one
abbrev pub needed_master : LibraryModel → Need → Option (List ℕ)
needed_master library (needs.KnownPin number) = Some (name_by (λ (m : MasterModel). m.name) (slice_get library.masters number))
needed_master library need = None

-- texts denote nothing, and the macro whose pin is needed is one of their library
pub record AreNotRead (profile : Profile) (lefs : List (List ℕ)) (def : List ℕ) (need : Need) (master : Option (List ℕ)) : Type 0 where
  pub nothing : DenoteNothing profile lefs def
  pub of_library : (library : LibraryModel) → DenoteLibraryFor profile lefs def library → master ≡ needed_master library need

-- texts denote nothing, and these are the units of the DEF
pub record AreNotScaled (profile : Profile) (lefs : List (List ℕ)) (def : List ℕ) (units : ℕ) : Type 0 where
  pub nothing : DenoteNothing profile lefs def
  pub units_are : Denotes units_in def units

-- texts denote a design, and what the command's reason says besides is so
pub record IsOfDesign {A : Type 0} (command : Command) (profile : Profile) (lefs : List (List ℕ)) (def : List ℕ) (reason : Reason A) : Type 0 where
  pub library : LibraryModel
  pub design : DesignModel
  pub say : DenoteDesign profile lefs def library design
  pub holds : IsSoOfDesign command design reason

-- What the reason says besides is so of the texts.
abbrev pub IsSoOfTexts : {A : Type 0} → Command → Profile → List (List ℕ) → List ℕ → Reason A → Type 0
IsSoOfTexts command profile lefs def (Read fault master) = AreNotRead profile lefs def fault.need master
IsSoOfTexts command profile lefs def (Scale fault units) = AreNotScaled profile lefs def units
IsSoOfTexts command profile lefs def reason = IsOfDesign command profile lefs def reason

-- an answer of this status has a reason, or has none
abbrev pub HasReason : Status → Type 0
HasReason Success = ⊥
HasReason Violations = ⊥
HasReason Refused = Unit {0}
HasReason Unsolved = Unit {0}
HasReason Memory = ⊥

abbrev pub HasNoReason : Status → Type 0
HasNoReason Success = Unit {0}
HasNoReason Violations = Unit {0}
HasNoReason Refused = ⊥
HasNoReason Unsolved = ⊥
HasNoReason Memory = Unit {0}

-- The status goes with the reason, the text tells it, and what it says besides is so.
abbrev pub Explains : {A : Type 0} → (Reason A → Type 0) → Status → Option (Reason A) → List ℕ → Type 0
Explains IsSo status None text = HasNoReason status
Explains IsSo status (Some reason) text = HasReason status × ReportsReason reason text × IsSo reason

-- The text and the status are an answer of the command to these texts, and this is its reason.
pub record IsExplained {A : Type 0} (command : Command) (profile : Profile) (lefs : List (List ℕ)) (def : List ℕ) (reason : Option (Reason A)) (status : Status)
    (text : List ℕ) : Type 0 where
  pub answer : IsAnswer command profile lefs def status text
  pub explains : Explains (IsSoOfTexts command profile lefs def) status reason text

-- The same of a stream: of its LEF and its DEF, or where no LEF ends in it.
abbrev pub IsSoOfStream : {A : Type 0} → List ℕ → Reason A → Type 0
IsSoOfStream stream NoLibrary = ¬ HasEndLibrary stream
IsSoOfStream stream reason = (lef : List ℕ) × (def : List ℕ) × IsSplit stream lef def × IsSoOfTexts Check Narrow (lef ∷ []) def reason

pub record IsStreamExplained {A : Type 0} (stream : List ℕ) (reason : Option (Reason A)) (status : Status) (text : List ℕ) : Type 0 where
  pub answer : IsStreamAnswer stream status text
  pub explains : Explains (IsSoOfStream stream) status reason text
