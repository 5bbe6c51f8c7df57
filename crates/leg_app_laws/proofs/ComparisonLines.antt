-- What differs between a DEF and what a command has printed of it, and the verdict on it.
use Rattle.std.proofs.Common.{◌≡◌, ℕ, ◌<◌, ◌⊎◌, List, [], ◌∷◌, inl, inr, refl, sym, ap, ◌∙◌, subst, arith}
use Rattle.std.specs.List.{All}
use Rattle.std.proofs.lemmas.List.Elements.{All-weaker, All-head, All-tail}
use Rattle.leg_lib_records.specs.Records.{LibraryModel}
use Rattle.leg_design_records.specs.Records.{DesignModel}
use Rattle.leg_rules.specs.declared.difference.Difference.{Difference}
use Rattle.leg_rules.specs.declared.difference.Verdict.{Verdict}
use Rattle.leg_rules.specs.declared.difference.Verdict.TheVariants.{Same, Places, Wires, PlacesAndWires, Differs}
use Rattle.leg_rules.specs.Compare.Differences.{IsDifference}
use Rattle.leg_rules.specs.Compare.Order.{AreAllDifferences}
use Rattle.leg_rules.specs.Compare.Verdicts.{IsMove, IsGrowth, HasSoMany, IsVerdict}
use Rattle.leg_compare.proofs.Counts.{OfAKind, not_both}
use Rattle.leg_app.specs.declared.status.Status.{Status}
use Rattle.leg_app.specs.declared.status.Status.TheVariants.{Success, Violations, Refused, Unsolved, Memory}
use Rattle.leg_grammar.specs.declared.profile.Profile.{Profile}
use Rattle.leg_grammar.specs.Texts.{DenoteDesign}
use Rattle.leg_app.specs.Comparison.{Compares}
use Rattle.leg_app_laws.specs.Lines.{IsOfPlaces, IsOfWires, IsOfPlacesAndWires, ComparesAs, AnswersAs, AnswersPlaces, AnswersWires, AnswersPlacesAndWires}

-- where all elements have a property that excludes another, none has that one
none_so : {X : Type 0} (P Q : X → Type 0) → ((x : X) → Q x → P x → ⊥) → (xs : List X) (n : ℕ) → All Q xs → HasSoMany P xs n → n ≡ 0
none_so P Q apart [] n each h = h
none_so P Q apart (x ∷ xs) n each (inl h) = absurd (apart x (All-head Q x xs each) h.0)
none_so P Q apart (x ∷ xs) n each (inr h) = none_so P Q apart xs n (All-tail Q x xs each) h.1

module _ (first : DesignModel) where
  no_growth : (list : List Difference) (n : ℕ) → All (IsMove first) list → 0 < n → HasSoMany IsGrowth list n → ⊥
  no_growth list n each some h =
      let none : n ≡ 0 = none_so IsGrowth (IsMove first) (not_both first) list n each h in
      omega (arith, none, some)

  no_move : (list : List Difference) (n : ℕ) → All IsGrowth list → 0 < n → HasSoMany (IsMove first) list n → ⊥
  no_move list n each some h =
      let none : n ≡ 0 = none_so (IsMove first) IsGrowth (λ d growth move. not_both first d move growth) list n each h in
      omega (arith, none, some)

  of_places : (list : List Difference) (v : Verdict) → All (IsMove first) list → IsVerdict first list v → IsOfPlaces v
  of_places list Same each judged = tt
  of_places list (Places moves) each judged = tt
  of_places list (Wires growths) each judged = no_growth list growths each judged.0 judged.1.growths_
  of_places list (PlacesAndWires moves growths) each judged = no_growth list growths each judged.1 judged.2.growths_
  of_places list (Differs count) each judged = judged.1 (All-weaker (IsMove first) (OfAKind first) (λ d move. inl move) list each)

  of_wires : (list : List Difference) (v : Verdict) → All IsGrowth list → IsVerdict first list v → IsOfWires v
  of_wires list Same each judged = tt
  of_wires list (Places moves) each judged = no_move list moves each judged.0 judged.1.moves_
  of_wires list (Wires growths) each judged = tt
  of_wires list (PlacesAndWires moves growths) each judged = no_move list moves each judged.0 judged.2.moves_
  of_wires list (Differs count) each judged = judged.1 (All-weaker IsGrowth (OfAKind first) (λ d growth. inr growth) list each)

  of_both : (list : List Difference) (v : Verdict) → All (OfAKind first) list → IsVerdict first list v → IsOfPlacesAndWires v
  of_both list Same each judged = tt
  of_both list (Places moves) each judged = tt
  of_both list (Wires growths) each judged = tt
  of_both list (PlacesAndWires moves growths) each judged = tt
  of_both list (Differs count) each judged = judged.1 each

-- texts say one design at most
abbrev pub SayOneDesign : Type 0
SayOneDesign = (profile : Profile) (lefs : List (List ℕ)) (def : List ℕ) (library other : LibraryModel) (a b : DesignModel)
    → DenoteDesign profile lefs def library a → DenoteDesign profile lefs def other b → (library ≡ other) × (a ≡ b)

module _ (one : SayOneDesign) (profile : Profile) (lefs : List (List ℕ)) (before after : List ℕ) (library : LibraryModel) (first second : DesignModel)
    (say_first : DenoteDesign profile lefs before library first) (say_second : DenoteDesign profile lefs after library second) where
  -- each difference is such a one, and where each of a list is, the verdict on it is such a one
  module _ (IsOne : DesignModel → Difference → Type 0) (IsLast : Verdict → Type 0) (only : (d : Difference) → IsDifference first second d → IsOne first d)
      (suits : (list : List Difference) (v : Verdict) → All (IsOne first) list → IsVerdict first list v → IsLast v) where
    of_compared : (status : Status) (text : List ℕ) → Compares profile lefs before after status text
        → ComparesAs IsOne IsLast profile lefs before after status text
    of_compared status text c =
        let firsts : c.first ≡ first = (one profile lefs before c.library library c.first first c.say_first say_first).1 in
        let seconds : c.second ≡ second = (one profile lefs after c.library library c.second second c.say_second say_second).1 in
        let all : AreAllDifferences first second c.list =
        subst (λ d. AreAllDifferences first d c.list) seconds (subst (λ d. AreAllDifferences d c.second c.list) firsts c.all) in
        let judged : IsVerdict first c.list c.verdict = subst (λ d. IsVerdict d c.list c.verdict) firsts c.judged in
        let each : All (IsOne first) c.list = All-weaker (IsDifference first second) (IsOne first) only c.list all.each in
        record { compares = c; each = subst (λ d. All (IsOne d) c.list) (sym firsts) each; last = suits c.list c.verdict each judged }

    answers_as : AnswersAs IsOne IsLast profile lefs before after
    answers_as Success text c kept = of_compared Success text c
    answers_as Violations text (inl c) kept = of_compared Violations text c
    answers_as Violations text (inr u) kept =
        let here : u.library ≡ library = (one profile lefs before u.library library u.first first u.say_first say_first).0 in
        let there : u.other ≡ library = (one profile lefs after u.other library u.second second u.say_second say_second).0 in
        absurd (u.apart (ap (λ l. l.units) (here ∙ sym there)))
    answers_as Refused text told kept = elim told.nothing [
      | inl nothing ↦ absurd (nothing library first say_first)
      | inr nothing ↦ absurd (nothing library second say_second)
    ]
    answers_as Unsolved text none kept = absurd none
    answers_as Memory text is kept = absurd (kept refl)

  pub places_answered : ((d : Difference) → IsDifference first second d → IsMove first d) → AnswersPlaces profile lefs before after
  places_answered only = answers_as IsMove IsOfPlaces only (of_places first)

  pub wires_answered : ((d : Difference) → IsDifference first second d → IsGrowth d) → AnswersWires profile lefs before after
  wires_answered only = answers_as (λ f d. IsGrowth d) IsOfWires only (of_wires first)

  pub both_answered : ((d : Difference) → IsDifference first second d → IsMove first d ⊎ IsGrowth d) → AnswersPlacesAndWires profile lefs before after
  both_answered only = answers_as (λ f d. IsMove f d ⊎ IsGrowth d) IsOfPlacesAndWires only (of_both first)
