-- Answers of every command.
use Rattle.std.proofs.Common.{◌≡◌, ℕ, false, List, Option, None, Some, is_some, option_map, Result, Ok, Err, IfOk, codes, inl, inr, refl, sym, arith}
use Rattle.std.proofs.lemmas.Fmt.{decimal_digit}
use Rattle.std.proofs.lemmas.Bool.{false≢true}
use Rattle.leg_app_input.specs.declared.command.Command.{Command}
use Rattle.leg_app.specs.declared.status.Status.{Status}
use Rattle.leg_app.specs.declared.status.Status.TheVariants.{Success, Violations, Refused, Unsolved, Memory}
use Rattle.leg_app.specs.declared.text_fault.TextFault.{TextFault}
use Rattle.leg_app.specs.declared.text_fault.TextFault.TheVariants as faults
use Rattle.leg_app.specs.Refusal.{Refuses, IsOutOfMemory}
use Rattle.leg_lib_records.specs.Records.{LibraryModel}
use Rattle.leg_design_records.specs.Records.{DesignModel}
use Rattle.leg_design_records.specs.declared.fault.Fault.{Fault}
use Rattle.leg_design_records.specs.Violation.{IsListOf}
use Rattle.leg_rules.specs.Metal.Flat.{FlatModel}
use Rattle.leg_grammar.specs.declared.profile.Profile.{Profile}
use Rattle.leg_grammar.specs.Texts.{DenoteDesign}
use Rattle.leg_output.specs.Commands.Check.{no_library_text}
use Rattle.leg_app.specs.Answer.{Lists, IsShown, IsAnswer}
use Rattle.leg_app.specs.Answer.{IsListing}
use Rattle.leg_app.specs.Steps.Making.{IsMaking}
use Rattle.leg_app.specs.Steps.OneLibrary.{DenoteNoLibrary}
use Rattle.leg_app.specs.Steps.FaultReasons.{IsOfMaster}

-- what two clauses say holds of one answer
pub ok_both : {T E : Type 0} (P Q : T → Type 0) (r : Result T E) → IfOk r P → IfOk r Q → IfOk r (λ t. P t × Q t)
ok_both P Q (Ok t) one other = (one, other)
ok_both P Q (Err e) one other = tt

-- why texts are refused tells no less where less is said by a refusal
pub refuses_weaker : {nothing other much more : Type 0} (fault : TextFault) → (nothing → other) → (much → more) → Refuses nothing much fault
    → Refuses other more fault
refuses_weaker (faults.Read fault) weaker greater h = λ not_memory. weaker (h not_memory)
refuses_weaker (faults.Scale fault units) weaker greater h = λ not_memory. weaker (h not_memory)
refuses_weaker faults.TooMany weaker greater h = greater h
refuses_weaker faults.Memory weaker greater h = tt

-- where no library is said, no macro of it is needed
pub master_of_none : (profile : Profile) (lefs : List (List ℕ)) (def : List ℕ) (fault : TextFault) → Refuses (DenoteNoLibrary profile lefs def) ⊥ fault
    → IsOfMaster profile lefs def fault None
master_of_none profile lefs def (faults.Read fault) none = λ not_memory library say. absurd (none not_memory library say)
master_of_none profile lefs def (faults.Scale fault units) none = tt
master_of_none profile lefs def faults.TooMany none = tt
master_of_none profile lefs def faults.Memory none = tt

-- where there is too much, and memory has not run out, that is why texts are refused
pub much_is_why : {nothing much : Type 0} (fault : TextFault) → (much → nothing → ⊥) → (IsOutOfMemory fault → ⊥) → Refuses nothing much fault → much
    → fault ≡ faults.TooMany
much_is_why (faults.Read fault) apart known h much = absurd (apart much (h known))
much_is_why (faults.Scale fault units) apart known h much = absurd (apart much (h known))
much_is_why faults.TooMany apart known h much = refl
much_is_why faults.Memory apart known h much = absurd (known tt)

-- what isn't there isn't seen
pub nothing_there : {X Y : Type 0} (f : X → Y) (o : Option X) → is_some o ≡ false → option_map f o ≡ None
nothing_there f None e = refl
nothing_there f (Some x) e = absurd (false≢true (sym e))

-- violations that are listed, or told to be none, are an answer where they are all that the command lists
pub listed_answer : (command : Command) (profile : Profile) (lefs : List (List ℕ)) (def : List ℕ) (library : LibraryModel) (design : DesignModel)
    (flat : Option FlatModel)
    (violations : List Fault) (status : Status) (text : List ℕ) → DenoteDesign profile lefs def library design → IsShown command design flat
    → IsListOf (Lists command design) violations → IsListing design flat violations status text → IsAnswer command profile lefs def status text
listed_answer command profile lefs def library design flat violations Success text say shown list listed =
    inl (record { library = library; design = design; flat = flat; violations = violations; say = say; shown = shown; list = list; is = listed })
listed_answer command profile lefs def library design flat violations Violations text say shown list listed =
    record { library = library; design = design; flat = flat; violations = violations; say = say; shown = shown; list = list; is = listed }
listed_answer command profile lefs def library design flat violations Refused text say shown list listed = absurd listed
listed_answer command profile lefs def library design flat violations Unsolved text say shown list listed = absurd listed
listed_answer command profile lefs def library design flat violations Memory text say shown list listed = absurd listed

-- what is made of a design is an answer to texts that say the design, and so is the reason for which nothing is made of it
pub made_answer : (command : Command) (profile : Profile) (lefs : List (List ℕ)) (def : List ℕ) (library : LibraryModel) (design : DesignModel)
    (status : Status) (text : List ℕ)
    → DenoteDesign profile lefs def library design → IsMaking command design status text → IsAnswer command profile lefs def status text
made_answer command profile lefs def library design Success text say made = inr (inr (record { library = library; design = design; say = say; made = made }))
made_answer command profile lefs def library design Unsolved text say reason = record { library = library; design = design; say = say; reason = reason }
made_answer command profile lefs def library design Violations text say made = absurd made
made_answer command profile lefs def library design Refused text say made = absurd made
made_answer command profile lefs def library design Memory text say made = absurd made

-- the line of a stream in which no LEF ends
pub no_library_is : no_library_text ≡ codes "REFUSED 0 1 UnexpectedEnd\n"
no_library_is = rw (decimal_digit 0 (omega arith), decimal_digit 1 (omega arith)) refl
