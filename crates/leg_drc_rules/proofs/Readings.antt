-- What LEFs say one after the other.
use Rattle.std.proofs.Common.{◌≡◌, ℕ, zero, suc, ◌<◌, ◌≤◌, List, [], ◌∷◌, length, get_or, take, drop, map, refl, sym, ◌∙◌, subst, arith, ◌⊎◌, inl, inr, Result, Ok, Err, IfErr}
use Rattle.std.specs.List.{Any}
use Rattle.leg_lex.specs.declared.read_fault.ReadFault.{ReadFault}
use Rattle.leg_lex.specs.declared.read_fault.FaultKind.{FaultKind}
use Rattle.leg_lex.specs.declared.read_fault.FaultKind.TheVariants.{Memory}
use Rattle.leg_lex.specs.Denotes.{Denotes, HasNoWords}
use Rattle.leg_drc_rules.specs.Fault.{IsNumberOrMemory}
use Rattle.leg_lex.proofs.Denotations.{says_one}
use Rattle.leg_lib_records.specs.Records.{LibraryModel}
use Rattle.leg_drc_rules.specs.Records.{RawDeckModel}
use Rattle.leg_drc_rules.specs.Deck.{deck_in}
use Rattle.leg_drc_rules.specs.Texts.{ExtendRules}

module _ (library : LibraryModel) {X : Type 0} (text_of : X → List ℕ) where
  -- one more LEF
  pub extend_more : (lefs : List X) (i : ℕ) (d : X) (before deck next : RawDeckModel) → i < length lefs
      → ExtendRules library before (take i (map text_of lefs)) deck → Denotes (deck_in library deck) (text_of (get_or lefs i d)) next
      → ExtendRules library before (take (suc i) (map text_of lefs)) next
  extend_more [] i d before deck next less so_far says = absurd (omega arith)
  extend_more (lef ∷ lefs) zero d before deck next less so_far says =
      (next, subst (λ l. Denotes (deck_in library l) (text_of lef) next) (sym so_far) says, refl)
  extend_more (lef ∷ lefs) (suc i) d before deck next less so_far says =
      (so_far.0, so_far.1, extend_more lefs i d so_far.0 deck next (omega arith) so_far.2 says)

  -- what is left to say after one more LEF
  pub rest_more : (lefs : List X) (i : ℕ) (d : X) (deck next said : RawDeckModel) → i < length lefs
      → ((other : RawDeckModel) → Denotes (deck_in library deck) (text_of (get_or lefs i d)) other → other ≡ next)
      → ExtendRules library deck (drop i (map text_of lefs)) said → ExtendRules library next (drop (suc i) (map text_of lefs)) said
  rest_more [] i d deck next said less only rest = absurd (omega arith)
  rest_more (lef ∷ lefs) zero d deck next said less only rest =
      subst (λ n. ExtendRules library n (map text_of lefs) said) (only rest.0 rest.1) rest.2
  rest_more (lef ∷ lefs) (suc i) d deck next said less only rest = rest_more lefs i d deck next said (omega arith) only rest

  -- a LEF that says nothing
  pub rest_none : (lefs : List X) (i : ℕ) (d : X) (deck said : RawDeckModel) → i < length lefs
      → ((next : RawDeckModel) → Denotes (deck_in library deck) (text_of (get_or lefs i d)) next → ⊥) → ExtendRules library deck (drop i (map text_of
      lefs)) said → ⊥
  rest_none [] i d deck said less none rest = absurd (omega arith)
  rest_none (lef ∷ lefs) zero d deck said less none rest = none rest.0 rest.1
  rest_none (lef ∷ lefs) (suc i) d deck said less none rest = rest_none lefs i d deck said (omega arith) none rest

  -- no LEF is left
  pub rest_all : (lefs : List X) (i : ℕ) (deck said : RawDeckModel) → length lefs ≤ i → ExtendRules library deck (drop i (map text_of lefs)) said → said ≡ deck
  rest_all [] zero deck said past rest = sym rest
  rest_all [] (suc i) deck said past rest = sym rest
  rest_all (lef ∷ lefs) zero deck said past rest = absurd (omega arith)
  rest_all (lef ∷ lefs) (suc i) deck said past rest = rest_all lefs i deck said (omega arith) rest

-- texts say one thing at most
pub extend_one : (library : LibraryModel) (lefs : List (List ℕ)) (before a b : RawDeckModel) → ExtendRules library before lefs a → ExtendRules
    library before lefs b → a ≡ b
extend_one library [] before a b p q = sym p ∙ q
extend_one library (lef ∷ lefs) before a b p q =
    let same : p.0 ≡ q.0 = says_one (deck_in library before) lef p.0 q.0 p.1 q.1 in
    extend_one library lefs q.0 a b (subst (λ l. ExtendRules library l lefs a) same p.2) q.2

-- memory ran out or not
memory_or_not : (kind : FaultKind) → (kind ≡ Memory) ⊎ (kind ≡ Memory → ⊥)
memory_or_not Memory = inl refl
memory_or_not kind = inr (λ e. let f : ⊥ = cc in f)

-- a text is refused for want of words alone, or of memory
pub refused_text : (kind : FaultKind) (text : List ℕ) → ((kind ≡ Memory → ⊥) → HasNoWords text) → IsNumberOrMemory kind ⊎ HasNoWords text
refused_text kind text none = by (memory_or_not kind) where
  by : (kind ≡ Memory) ⊎ (kind ≡ Memory → ⊥) → IsNumberOrMemory kind ⊎ HasNoWords text
  by (inl memory) = inl (inr (inr memory))
  by (inr other) = inr (none other)

-- what the words of a text are refused for
pub refused_words : {X : Type 0} (r : Result X ReadFault) (text : List ℕ) → IfErr r (λ fault. IsNumberOrMemory fault.kind)
    → IfErr r (λ fault. IsNumberOrMemory fault.kind ⊎ HasNoWords text)
refused_words (Ok x) text number = tt
refused_words (Err fault) text number = inl number

module _ {X : Type 0} (text_of : X → List ℕ) where
  no_words_there : (lefs : List X) (i : ℕ) (d : X) → i < length lefs → HasNoWords (text_of (get_or lefs i d)) → Any HasNoWords (map text_of lefs)
  no_words_there [] i d less none = absurd (omega arith)
  no_words_there (lef ∷ lefs) zero d less none = (0, text_of lef, omega arith, refl, none)
  no_words_there (lef ∷ lefs) (suc i) d less none =
      let there = no_words_there lefs i d (omega arith) none in
      let within : there.0 < length (map text_of lefs) = there.2 in
      (suc there.0, there.1, omega arith, there.3, there.4)

  -- a text that is refused is one of the texts
  pub refused_there : (kind : FaultKind) (lefs : List X) (i : ℕ) (d : X) → i < length lefs
      → IsNumberOrMemory kind ⊎ HasNoWords (text_of (get_or lefs i d)) → IsNumberOrMemory kind ⊎ Any HasNoWords (map text_of lefs)
  refused_there kind lefs i d less (inl number) = inl number
  refused_there kind lefs i d less (inr none) = inr (no_words_there lefs i d less none)
