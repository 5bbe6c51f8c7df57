-- What texts say, and what is answered to them, is one thing at most.
use Rattle.std.proofs.Common.{◌≡◌, ◌≢◌, ℕ, ◌<◌, List, length, Option, None, Some, inl, inr, refl, sym, ap, ◌∙◌, subst, arith}
use Rattle.leg_lex.proofs.Denotations.{says_one}
use Rattle.leg_lib_records.specs.Records.{RawLibraryModel, LibraryModel}
use Rattle.leg_lib_records.specs.Scale.{IsLibraryAt}
use Rattle.leg_design_records.specs.declared.limits.TheConstants.{PART_LIMIT}
use Rattle.leg_design_records.specs.Records.{DesignModel}
use Rattle.leg_design_records.specs.declared.fault.Fault.{Fault}
use Rattle.leg_design_records.specs.Violation.{IsListOf}
use Rattle.leg_lex.specs.Denotes.{Denotes}
use Rattle.leg_grammar.specs.declared.profile.Profile.{Profile}
use Rattle.leg_grammar.specs.Lef.Library.{DenoteLibrary}
use Rattle.leg_grammar.specs.Def.Header.{units_in}
use Rattle.leg_grammar.specs.Def.Form.{design_in}
use Rattle.leg_rules.specs.Metal.Flat.{FlatModel, IsJudgedBy}
use Rattle.leg_rules.specs.Metal.Metal.{metal_of}
use Rattle.leg_flat.proofs.OneFlat.{one_flat}
use Rattle.leg_rules.specs.Wirelength.{IsWirelength}
use Rattle.leg_print.proofs.OneWirelength.{one_wirelength}
use Rattle.leg_app_input.specs.declared.command.Command.{Command}
use Rattle.leg_app_input.specs.declared.command.Command.TheVariants.{PlaceCheck, Check, Measure, Legalise, Route, Flow, Finish, Print}
use Rattle.leg_app.specs.declared.status.Status.{Status}
use Rattle.leg_app.specs.declared.status.Status.TheVariants.{Success, Violations, Refused, Unsolved, Memory}
use Rattle.leg_grammar.specs.Texts.{DenoteLibraryFor, DenoteDesign}
use Rattle.leg_rules.specs.Violations.{IsViolation, AreAllViolations}
use Rattle.leg_app.specs.Violations.{AreViolationsOf}
use Rattle.leg_output.specs.Commands.Check.{wirelength_text}
use Rattle.leg_legal.proofs.OneList.{one_list}
use Rattle.leg_app.specs.Results.{IsTextMade, IsReason, PrintsMade, ReportsUnsolved}
use Rattle.leg_app.specs.Answer.{Lists, IsShown, IsListing, ListsViolations, ReportsWirelength, IsAnswer}
use Rattle.leg_app.proofs.OneMaking.{IsOutcome, one_made, one_reason_told, made_or_not, shown_or_made, no_outcome_of_measure, no_outcome_of_check}

-- LEF texts say one library at most, and at some units one at most
abbrev pub SayOneRaw : Type 0
SayOneRaw = (profile : Profile) (lefs : List (List ℕ)) (a b : RawLibraryModel) → DenoteLibrary profile lefs a → DenoteLibrary profile lefs b → a ≡ b

abbrev pub IsOneAtUnits : Type 0
IsOneAtUnits = (n : ℕ) (raw : RawLibraryModel) (a b : LibraryModel) → IsLibraryAt n raw a → IsLibraryAt n raw b → a ≡ b

module _ (profile : Profile) (lefs : List (List ℕ)) (def : List ℕ) where
  pub one_library_said : SayOneRaw → IsOneAtUnits → (a b : LibraryModel) → DenoteLibraryFor profile lefs def a → DenoteLibraryFor profile lefs def b → a ≡ b
  one_library_said one_raw one_at a b p q =
      let units : p.units ≡ q.units = says_one units_in def p.units q.units p.unit q.unit in
      let raw : p.raw ≡ q.raw = one_raw profile lefs p.raw q.raw p.lef q.lef in
      one_at q.units q.raw a b (subst (λ n. IsLibraryAt n q.raw a) units (subst (λ r. IsLibraryAt p.units r a) raw p.scaled)) q.scaled

  -- these texts say one library at most
  abbrev pub SayOneLibrary : Type 0
  SayOneLibrary = (a b : LibraryModel) → DenoteLibraryFor profile lefs def a → DenoteLibraryFor profile lefs def b → a ≡ b

  pub one_design_said : SayOneLibrary → (library other : LibraryModel) (a b : DesignModel) → DenoteDesign profile lefs def library a
      → DenoteDesign profile lefs def other b
      → (library ≡ other) × (a ≡ b)
  one_design_said one library other a b p q =
      let same : library ≡ other = one library other p.under q.under in
      (same, says_one (design_in profile other) def a b (subst (λ l. Denotes (design_in profile l) def a) same p.said) q.said)

pub one_list_of_design : (design : DesignModel) (a b : List Fault) → AreAllViolations design a → AreAllViolations design b → a ≡ b
one_list_of_design design a b p q = one_list (IsViolation design) a b p.list q.list

-- these texts say one design at most
abbrev pub SayOneDesign : Profile → List (List ℕ) → List ℕ → Type 0
SayOneDesign profile lefs def =
    (library other : LibraryModel) (a b : DesignModel) → DenoteDesign profile lefs def library a → DenoteDesign profile lefs def other b → (library ≡ other) ×
    (a ≡ b)

pub one_list_of_texts : (profile : Profile) (lefs : List (List ℕ)) (def : List ℕ) → SayOneDesign profile lefs def → (a b : List Fault)
    → AreViolationsOf profile lefs def a
    → AreViolationsOf profile lefs def b → a ≡ b
one_list_of_texts profile lefs def one a b p q =
    let same = one p.library q.library p.design q.design p.say q.say in
    let all : AreAllViolations q.design a = subst (λ d. AreAllViolations d a) same.1 p.all in
    one_list_of_design q.design a b all q.all

-- one flat is shown
one_shown : (command : Command) (design : DesignModel) (f g : Option FlatModel) → IsShown command design f → IsShown command design g → f ≡ g
one_shown PlaceCheck design None None p q = refl
one_shown PlaceCheck design None (Some g) p q = absurd q
one_shown PlaceCheck design (Some f) g p q = absurd p
one_shown Check design None g p q = absurd p
one_shown Check design (Some f) None p q = absurd q
one_shown Measure design f g p q = absurd p
one_shown Legalise design f g p q = absurd p
one_shown Route design f g p q = absurd p
one_shown Flow design f g p q = absurd p
one_shown Finish design f g p q = absurd p
one_shown Print design f g p q = absurd p
one_shown Check design (Some f) (Some g) p q = (let same : f ≡ g = one_flat design f g p.is_flat q.is_flat in cc)

-- one status and one text go with violations
one_listing : (design : DesignModel) (flat : Option FlatModel) (violations : List Fault) (status other : Status) (text words : List ℕ)
    → IsListing design flat violations status text → IsListing design flat violations other words → (status ≡ other) × (text ≡ words)
one_listing design flat violations Success Success text words p q = (refl, p.1 ∙ sym q.1)
one_listing design flat violations Violations Violations text words p q = (refl, p.1 ∙ sym q.1)
one_listing design flat violations Success Violations text words p q = absurd (q.0 p.0)
one_listing design flat violations Violations Success text words p q = absurd (p.0 q.0)
one_listing design flat violations Success Refused text words p q = absurd q
one_listing design flat violations Success Unsolved text words p q = absurd q
one_listing design flat violations Success Memory text words p q = absurd q
one_listing design flat violations Violations Refused text words p q = absurd q
one_listing design flat violations Violations Unsolved text words p q = absurd q
one_listing design flat violations Violations Memory text words p q = absurd q
one_listing design flat violations Refused other text words p q = absurd p
one_listing design flat violations Unsolved other text words p q = absurd p
one_listing design flat violations Memory other text words p q = absurd p

module _ (command : Command) (profile : Profile) (lefs : List (List ℕ)) (def : List ℕ) (one : SayOneDesign profile lefs def) where
  one_judgement : (status other : Status) (text words : List ℕ) → ListsViolations command profile lefs def status text
      → ListsViolations command profile lefs def other words
      → (status ≡ other) × (text ≡ words)
  one_judgement status other text words p q =
      let same = one p.library q.library p.design q.design p.say q.say in
      let shown : IsShown command q.design p.flat = subst (λ d. IsShown command d p.flat) same.1 p.shown in
      let flats : p.flat ≡ q.flat = one_shown command q.design p.flat q.flat shown q.shown in
      let list : IsListOf (Lists command q.design) p.violations = subst (λ d. IsListOf (Lists command d) p.violations) same.1 p.list in
      let violations : p.violations ≡ q.violations = one_list (Lists command q.design) p.violations q.violations list q.list in
      let of_design : IsListing q.design p.flat p.violations status text = subst (λ d. IsListing d p.flat p.violations status text) same.1 p.is in
      let of_flat : IsListing q.design q.flat p.violations status text = subst (λ f. IsListing q.design f p.violations status text) flats of_design in
      let of_list : IsListing q.design q.flat q.violations status text = subst (λ vs. IsListing q.design q.flat vs status text) violations of_flat in
      one_listing q.design q.flat q.violations status other text words of_list q.is

  -- what is judged keeps the limit of shapes
  not_too_many : (design : DesignModel) (flat : Option FlatModel) → command ≡ Check → IsShown command design flat → PART_LIMIT < length (metal_of design) → ⊥
  not_too_many design None is shown many = (let none : ⊥ = subst (λ c. IsShown c design None) is shown in none)
  not_too_many design (Some flat) is shown many =
      let judged : IsJudgedBy design flat = subst (λ c. IsShown c design (Some flat)) is shown in
      omega (arith, judged.few, many)

  -- what is judged is not refused
  judged_not_refused : (status : Status) (text words : List ℕ) → ListsViolations command profile lefs def status text
      → IsAnswer command profile lefs def Refused words → ⊥
  judged_not_refused status text words p (inl refusal) = refusal.nothing p.library p.design p.say
  judged_not_refused status text words p (inr much) =
      let same = one much.many.library p.library much.many.design p.design much.many.say p.say in
      not_too_many p.design p.flat much.flattens p.shown (subst (λ d. PART_LIMIT < length (metal_of d)) same.1 much.many.many)

  -- a command that tells a wirelength lists nothing
  lists_nothing : (status : Status) (text words : List ℕ) → ListsViolations command profile lefs def status text
      → ReportsWirelength command profile lefs def words → ⊥
  lists_nothing status text words p q = (let none : ⊥ = subst (λ c. IsShown c p.design p.flat) q.measures p.shown in none)

  -- one wirelength is told
  one_measure : (text words : List ℕ) → ReportsWirelength command profile lefs def text → ReportsWirelength command profile lefs def words → text ≡ words
  one_measure text words p q =
      let same = one p.library q.library p.design q.design p.say q.say in
      let measured : IsWirelength q.design p.length = subst (λ d. IsWirelength d p.length) same.1 p.measured in
      let lengths : p.length ≡ q.length = one_wirelength q.design p.length q.length measured q.measured in
      p.is ∙ ap wirelength_text lengths ∙ sym q.is

  -- texts whose wirelength is told are not refused
  measured_not_refused : (text words : List ℕ) → ReportsWirelength command profile lefs def text → IsAnswer command profile lefs def Refused words → ⊥
  measured_not_refused text words p (inl refusal) = refusal.nothing p.library p.design p.say
  measured_not_refused text words p (inr much) = (let both : ◌≡◌ {A = Command} Check Measure = sym much.flattens ∙ p.measures in cc)

  -- a command that lists violations or measures makes no design
  lists_or_makes : (status : Status) (text words : List ℕ) (design : DesignModel)
      → ListsViolations command profile lefs def status text → IsOutcome command design words → ⊥
  lists_or_makes status text words design p outcome = shown_or_made command p.design design p.flat words p.shown outcome

  measures_or_makes : (text words : List ℕ) (design : DesignModel) → ReportsWirelength command profile lefs def text → IsOutcome command design words → ⊥
  measures_or_makes text words design p outcome = no_outcome_of_measure design words (subst (λ c. IsOutcome c design words) p.measures outcome)

  -- texts whose design has such an outcome are not refused
  made_not_refused : (library : LibraryModel) (design : DesignModel) (text words : List ℕ) → DenoteDesign profile lefs def library design
      → IsOutcome command design text → IsAnswer command profile lefs def Refused words → ⊥
  made_not_refused library design text words say outcome (inl refusal) = refusal.nothing library design say
  made_not_refused library design text words say outcome (inr much) =
      no_outcome_of_check design text (subst (λ c. IsOutcome c design text) much.flattens outcome)

  -- of a command that doesn't route
  module _ (first : command ≢ Route) (second : command ≢ Flow) (third : command ≢ Finish) where
    one_making : (text words : List ℕ) → PrintsMade command profile lefs def text → PrintsMade command profile lefs def words → text ≡ words
    one_making text words p q =
        let same = one p.library q.library p.design q.design p.say q.say in
        let made : IsTextMade command q.design text = subst (λ d. IsTextMade command d text) same.1 p.made in
        one_made command q.design text words first second third made q.made

    one_unsolved : (text words : List ℕ) → ReportsUnsolved command profile lefs def text → ReportsUnsolved command profile lefs def words → text ≡ words
    one_unsolved text words p q =
        let same = one p.library q.library p.design q.design p.say q.say in
        let reason : IsReason command q.design text = subst (λ d. IsReason command d text) same.1 p.reason in
        one_reason_told command q.design text words first second third reason q.reason

    made_or_unsolved : (text words : List ℕ) → PrintsMade command profile lefs def text → ReportsUnsolved command profile lefs def words → ⊥
    made_or_unsolved text words p q =
        let same = one p.library q.library p.design q.design p.say q.say in
        let made : IsTextMade command q.design text = subst (λ d. IsTextMade command d text) same.1 p.made in
        made_or_not command q.design text words first second third made q.reason

    -- two answers without violations, and without a reason why nothing is made
    one_success : (text words : List ℕ) → IsAnswer command profile lefs def Success text → IsAnswer command profile lefs def Success words → text ≡ words
    one_success text words (inl p) (inl q) = (one_judgement Success Success text words p q).1
    one_success text words (inl p) (inr (inl q)) = absurd (lists_nothing Success text words p q)
    one_success text words (inl p) (inr (inr q)) = absurd (lists_or_makes Success text words q.design p (inl q.made))
    one_success text words (inr (inl p)) (inl q) = absurd (lists_nothing Success words text q p)
    one_success text words (inr (inl p)) (inr (inl q)) = one_measure text words p q
    one_success text words (inr (inl p)) (inr (inr q)) = absurd (measures_or_makes text words q.design p (inl q.made))
    one_success text words (inr (inr p)) (inl q) = absurd (lists_or_makes Success words text p.design q (inl p.made))
    one_success text words (inr (inr p)) (inr (inl q)) = absurd (measures_or_makes words text p.design q (inl p.made))
    one_success text words (inr (inr p)) (inr (inr q)) = one_making text words p q

    -- beside such an answer no violations are listed
    listed_once : (text words : List ℕ) → IsAnswer command profile lefs def Success text → ListsViolations command profile lefs def Violations words → ⊥
    listed_once text words (inl p) q = (let same : ◌≡◌ {A = Status} Success Violations = (one_judgement Success Violations text words p q).0 in cc)
    listed_once text words (inr (inl p)) q = lists_nothing Violations words text q p
    listed_once text words (inr (inr p)) q = lists_or_makes Violations words text p.design q (inl p.made)

    -- nor is such a reason printed
    unsolved_once : (text words : List ℕ) → IsAnswer command profile lefs def Success text → ReportsUnsolved command profile lefs def words → ⊥
    unsolved_once text words (inl p) q = lists_or_makes Success text words q.design p (inr q.reason)
    unsolved_once text words (inr (inl p)) q = measures_or_makes text words q.design p (inr q.reason)
    unsolved_once text words (inr (inr p)) q = made_or_unsolved text words p q

    -- nor are the texts refused
    solved_not_refused : (text words : List ℕ) → IsAnswer command profile lefs def Success text → IsAnswer command profile lefs def Refused words → ⊥
    solved_not_refused text words (inl p) q = judged_not_refused Success text words p q
    solved_not_refused text words (inr (inl p)) q = measured_not_refused text words p q
    solved_not_refused text words (inr (inr p)) q = made_not_refused p.library p.design text words p.say (inl p.made) q

    pub one_answer : (status other : Status) (text words : List ℕ) → IsAnswer command profile lefs def status text
        → IsAnswer command profile lefs def other words
        → status ≢ Refused → status ≢ Memory → other ≢ Memory → (status ≡ other) × (text ≡ words)
    one_answer Refused other text words p q judged told told_too = absurd (judged refl)
    one_answer Memory other text words p q judged told told_too = absurd (told refl)
    one_answer Success Success text words p q judged told told_too = (refl, one_success text words p q)
    one_answer Success Violations text words p q judged told told_too = absurd (listed_once text words p q)
    one_answer Success Refused text words p q judged told told_too = absurd (solved_not_refused text words p q)
    one_answer Success Unsolved text words p q judged told told_too = absurd (unsolved_once text words p q)
    one_answer Success Memory text words p q judged told told_too = absurd (told_too refl)
    one_answer Violations Success text words p q judged told told_too = absurd (listed_once words text q p)
    one_answer Violations Violations text words p q judged told told_too = one_judgement Violations Violations text words p q
    one_answer Violations Refused text words p q judged told told_too = absurd (judged_not_refused Violations text words p q)
    one_answer Violations Unsolved text words p q judged told told_too = absurd (lists_or_makes Violations text words q.design p (inr q.reason))
    one_answer Violations Memory text words p q judged told told_too = absurd (told_too refl)
    one_answer Unsolved Success text words p q judged told told_too = absurd (unsolved_once words text q p)
    one_answer Unsolved Violations text words p q judged told told_too = absurd (lists_or_makes Violations words text p.design q (inr p.reason))
    one_answer Unsolved Refused text words p q judged told told_too = absurd (made_not_refused p.library p.design text words p.say (inr p.reason) q)
    one_answer Unsolved Unsolved text words p q judged told told_too = (refl, one_unsolved text words p q)
    one_answer Unsolved Memory text words p q judged told told_too = absurd (told_too refl)
