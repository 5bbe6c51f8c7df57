-- What is answered to two DEFs that are compared is one thing at most.
use Rattle.std.proofs.Common.{◌≡◌, ◌≢◌, ℕ, zero, suc, ◌⊎◌, List, [], ◌∷◌, length, inl, inr, refl, sym, ap, ◌∙◌, subst, arith}
use Rattle.std.specs.List.{All}
use Rattle.std.proofs.lemmas.List.Elements.{All-contains, All-nil}
use Rattle.leg_lemmas.proofs.RisingLists.{same_rising}
use Rattle.leg_design_records.specs.Records.{DesignModel}
use Rattle.leg_rules.specs.declared.difference.Difference.{Difference}
use Rattle.leg_rules.specs.declared.difference.Verdict.{Verdict}
use Rattle.leg_rules.specs.declared.difference.Verdict.TheVariants.{Same, Places, Wires, PlacesAndWires, Differs}
use Rattle.leg_rules.specs.Compare.Differences.{IsDifference}
use Rattle.leg_rules.specs.Compare.Order.{rank, IsListedBefore, AreAllDifferences}
use Rattle.leg_rules.specs.Compare.Verdicts.{IsMove, IsGrowth, HasSoMany, AreMovesAndGrowths, IsVerdict}
use Rattle.leg_app.specs.declared.status.Status.{Status}
use Rattle.leg_app.specs.declared.status.Status.TheVariants.{Success, Violations, Refused, Unsolved, Memory}
use Rattle.leg_output.specs.Commands.Compare.{comparison_text}
use Rattle.leg_app.specs.Comparison.{status_of, Compares, HasOtherUnits, ReportsNotCompared, IsComparison}
use Rattle.leg_grammar.specs.declared.profile.Profile.{Profile}
use Rattle.leg_app.proofs.OneAnswer.{SayOneDesign}

-- Two lists of all differences are equal.
IsListedBefore-irreflexive : (d : Difference) → IsListedBefore d d → ⊥
IsListedBefore-irreflexive d before = omega (arith, before.change refl refl)

module _ (u v w : Difference) (one : IsListedBefore u v) (two : IsListedBefore v w) where
  stages : (rank u).stage ≡ (rank w).stage → ((rank u).stage ≡ (rank v).stage) × ((rank v).stage ≡ (rank w).stage)
  stages same = (omega (arith, same, one.stage, two.stage), omega (arith, same, one.stage, two.stage))

  entries : (rank u).stage ≡ (rank w).stage → (rank u).entry ≡ (rank w).entry → ((rank u).entry ≡ (rank v).entry) × ((rank v).entry ≡ (rank w).entry)
  entries same entry =
      let both = stages same in
      let a = one.entry both.0 in
      let b = two.entry both.1 in
      (omega (arith, entry, a, b), omega (arith, entry, a, b))

  IsListedBefore-transitive : IsListedBefore u w
  IsListedBefore-transitive = record {
    stage = omega (arith, one.stage, two.stage);
    entry = λ same. (let both = stages same in omega (arith, one.entry both.0, two.entry both.1));
    change = λ same entry. (let both = stages same in let inner = entries same entry in omega (arith, one.change both.0 inner.0, two.change both.1 inner.1));
  }

one_list : (first second : DesignModel) (a b : List Difference) → AreAllDifferences first second a → AreAllDifferences first second b → a ≡ b
one_list first second a b p q =
    same_rising IsListedBefore IsListedBefore-irreflexive IsListedBefore-transitive a b p.increasing q.increasing
    (λ d has. q.all d (All-contains (IsDifference first second) a d p.each has)) (λ d has. p.all d (All-contains (IsDifference first second) b d q.each has))

-- So many elements have a property, and no other number of them.
one_number : {X : Type 0} (P : X → Type 0) (xs : List X) (n m : ℕ) → HasSoMany P xs n → HasSoMany P xs m → n ≡ m
one_number P [] n m h k = h ∙ sym k
one_number P (x ∷ xs) n m (inl h) (inl k) = h.1.1 ∙ (ap suc (one_number P xs h.1.0 k.1.0 h.1.2 k.1.2) ∙ sym k.1.1)
one_number P (x ∷ xs) n m (inl h) (inr k) = absurd (k.0 h.0)
one_number P (x ∷ xs) n m (inr h) (inl k) = absurd (h.0 k.0)
one_number P (x ∷ xs) n m (inr h) (inr k) = one_number P xs n m h.1 k.1

-- the verdict on so many moves and so many growths
abbrev verdict_on : ℕ → ℕ → Verdict
verdict_on zero zero = Same
verdict_on (suc m) zero = Places (suc m)
verdict_on zero (suc g) = Wires (suc g)
verdict_on (suc m) (suc g) = PlacesAndWires (suc m) (suc g)

module _ (first : DesignModel) (list : List Difference) where
  abbrev OfAKind : Difference → Type 0
  OfAKind d = IsMove first d ⊎ IsGrowth d

  -- what a verdict tells
  abbrev Told : Verdict → Type 0
  Told v = ((v ≡ Differs (length list)) × (¬ All OfAKind list)) ⊎ ((m : ℕ) × (g : ℕ) × AreMovesAndGrowths first list m g × (v ≡ verdict_on m g))

  none_of : list ≡ [] → AreMovesAndGrowths first list 0 0
  none_of is = record {
    moves_ = subst (λ (l : List Difference). HasSoMany (IsMove first) l 0) (sym is) refl;
    growths_ = subst (λ (l : List Difference). HasSoMany IsGrowth l 0) (sym is) refl;
    each = subst (λ (l : List Difference). All OfAKind l) (sym is) (All-nil OfAKind);
  }

  told : (v : Verdict) → IsVerdict first list v → Told v
  told Same is = inr (0, 0, none_of is, refl)
  told (Places zero) judged = absurd (omega (arith, judged.0))
  told (Places (suc m)) judged = inr (suc m, 0, judged.1, refl)
  told (Wires zero) judged = absurd (omega (arith, judged.0))
  told (Wires (suc g)) judged = inr (0, suc g, judged.1, refl)
  told (PlacesAndWires zero g) judged = absurd (omega (arith, judged.0))
  told (PlacesAndWires (suc m) zero) judged = absurd (omega (arith, judged.1))
  told (PlacesAndWires (suc m) (suc g)) judged = inr (suc m, suc g, judged.2, refl)
  told (Differs count) judged = inl (ap Differs (sym judged.0), judged.1)

  one_told : (v w : Verdict) → Told v → Told w → v ≡ w
  one_told v w (inl p) (inl q) = p.0 ∙ sym q.0
  one_told v w (inl p) (inr q) = absurd (p.1 q.2.each)
  one_told v w (inr p) (inl q) = absurd (q.1 p.2.each)
  one_told v w (inr p) (inr q) =
      let moves : p.0 ≡ q.0 = one_number (IsMove first) list p.0 q.0 p.2.moves_ q.2.moves_ in
      let growths : p.1 ≡ q.1 = one_number IsGrowth list p.1 q.1 p.2.growths_ q.2.growths_ in
      p.3 ∙ (ap (λ m. verdict_on m p.1) moves ∙ (ap (λ g. verdict_on q.0 g) growths ∙ sym q.3))

  one_verdict : (v w : Verdict) → IsVerdict first list v → IsVerdict first list w → v ≡ w
  one_verdict v w p q = one_told v w (told v p) (told w q)

module _ (profile : Profile) (lefs : List (List ℕ)) (before after : List ℕ) (one_before : SayOneDesign profile lefs before)
    (one_after : SayOneDesign profile lefs after) where
  one_compared : (status other : Status) (text words : List ℕ) → Compares profile lefs before after status text → Compares profile lefs before after other words
      → (status ≡ other) × (text ≡ words)
  one_compared status other text words p q =
      let firsts : p.first ≡ q.first = (one_before p.library q.library p.first q.first p.say_first q.say_first).1 in
      let seconds : p.second ≡ q.second = (one_after p.library q.library p.second q.second p.say_second q.say_second).1 in
      let all : AreAllDifferences q.first q.second p.list =
      subst (λ d. AreAllDifferences q.first d p.list) seconds (subst (λ d. AreAllDifferences d p.second p.list) firsts p.all) in
      let lists : p.list ≡ q.list = one_list q.first q.second p.list q.list all q.all in
      let judged : IsVerdict q.first q.list p.verdict =
      subst (λ l. IsVerdict q.first l p.verdict) lists (subst (λ d. IsVerdict d p.list p.verdict) firsts p.judged) in
      let verdicts : p.verdict ≡ q.verdict = one_verdict q.first q.list p.verdict q.verdict judged q.judged in (
        p.status_is ∙ (ap status_of verdicts ∙ sym q.status_is),
        p.is
            ∙ (ap (λ d. comparison_text d p.second p.list p.verdict) firsts
            ∙ (ap (λ d. comparison_text q.first d p.list p.verdict) seconds
            ∙ (ap (λ l. comparison_text q.first q.second l p.verdict) lists ∙ (ap (λ v. comparison_text q.first q.second q.list v) verdicts ∙ sym q.is)))),
      )

  -- designs of one library are not at other units
  units_or_compared : (status : Status) (text words : List ℕ) → Compares profile lefs before after status text → HasOtherUnits profile lefs before after words
      → ⊥
  units_or_compared status text words p q =
      let here : p.library ≡ q.library = (one_before p.library q.library p.first q.first p.say_first q.say_first).0 in
      let there : p.library ≡ q.other = (one_after p.library q.other p.second q.second p.say_second q.say_second).0 in
      q.apart (ap (λ l. l.units) (sym here ∙ there))

  compared_not_refused : (status : Status) (text words : List ℕ) → Compares profile lefs before after status text
      → ReportsNotCompared profile lefs before after words → ⊥
  compared_not_refused status text words p q = elim q.nothing [
    | inl nothing ↦ nothing p.library p.first p.say_first
    | inr nothing ↦ nothing p.library p.second p.say_second
  ]

  units_not_refused : (text words : List ℕ) → HasOtherUnits profile lefs before after text → ReportsNotCompared profile lefs before after words → ⊥
  units_not_refused text words p q = elim q.nothing [
    | inl nothing ↦ nothing p.library p.first p.say_first
    | inr nothing ↦ nothing p.other p.second p.say_second
  ]

  pub one_comparison : (status other : Status) (text words : List ℕ) → IsComparison profile lefs before after status text
      → IsComparison profile lefs before after other words
      → status ≢ Refused → status ≢ Memory → other ≢ Memory → (status ≡ other) × (text ≡ words)
  one_comparison Refused other text words p q kept first second = absurd (kept refl)
  one_comparison Memory other text words p q kept first second = absurd (first refl)
  one_comparison Unsolved other text words p q kept first second = absurd p
  one_comparison status Memory text words p q kept first second = absurd (second refl)
  one_comparison status Unsolved text words p q kept first second = absurd q
  one_comparison Success Success text words p q kept first second = one_compared Success Success text words p q
  one_comparison Success Violations text words p (inl q) kept first second = one_compared Success Violations text words p q
  one_comparison Success Violations text words p (inr q) kept first second = absurd (units_or_compared Success text words p q)
  one_comparison Success Refused text words p q kept first second = absurd (compared_not_refused Success text words p q)
  one_comparison Violations Success text words (inl p) q kept first second = one_compared Violations Success text words p q
  one_comparison Violations Success text words (inr p) q kept first second = absurd (units_or_compared Success words text q p)
  one_comparison Violations Violations text words (inl p) (inl q) kept first second = one_compared Violations Violations text words p q
  one_comparison Violations Violations text words (inl p) (inr q) kept first second = absurd (units_or_compared Violations text words p q)
  one_comparison Violations Violations text words (inr p) (inl q) kept first second = absurd (units_or_compared Violations words text q p)
  one_comparison Violations Violations text words (inr p) (inr q) kept first second = (refl, p.is ∙ sym q.is)
  one_comparison Violations Refused text words (inl p) q kept first second = absurd (compared_not_refused Violations text words p q)
  one_comparison Violations Refused text words (inr p) q kept first second = absurd (units_not_refused text words p q)
