-- Where a mark stands, and what is cut there.
use Rattle.std.proofs.Common.{◌≡◌, ℕ, zero, suc, ◌+◌, ◌<◌, ◌≤◌, Bool, true, false, List, [], ◌∷◌, length, map, get_or, take, drop, Option, None, Some, refl, arith, add-one}
use Rattle.std.specs.Str.{bytes_eq}
use Rattle.std.specs.List.{slice_split}
use Rattle.leg_lex.specs.Words.{Words, ◌>>=◌}
use Rattle.leg_lex.specs.Statements.{up_to}
use Rattle.leg_lex.proofs.Parts.{made_is, rest_is}

-- the word is this mark
abbrev pub is_this : ℕ → List ℕ → Bool
is_this mark word = bytes_eq word (mark ∷ [])

module _ {X : Type 0} (bytes : X → List ℕ) where
  -- no word before the place i is this mark
  abbrev pub NoneBefore : ℕ → ℕ → List X → Type 0
  NoneBefore mark i ts = (k : ℕ) (d : X) → k < i → k < length ts → is_this mark (bytes (get_or ts k d)) ≡ false

  later : (mark i : ℕ) (t : X) (ts : List X) → NoneBefore mark (suc i) (t ∷ ts) → NoneBefore mark i ts
  later mark i t ts none = λ k d less there. none (suc k) d (omega arith) (omega arith)

  -- the words are cut at the first such mark
  pub cut_there : (mark i : ℕ) (d : X) (ts : List X) → i < length ts → is_this mark (bytes (get_or ts i d)) ≡ true → NoneBefore mark i ts
      → up_to (is_this mark) (map bytes ts) ≡ Some (map bytes (take i ts), map bytes (drop (i + 1) ts))
  unfolding up_to
  cut_there mark i d [] less is none = absurd (omega arith)
  cut_there mark zero d (t ∷ ts) less is none = rw is refl
  cut_there mark (suc i) d (t ∷ ts) less is none =
      let here : is_this mark (bytes t) ≡ false = none 0 d (omega arith) (omega arith) in
      let there = cut_there mark i d ts (omega arith) is (later mark i t ts none) in
      rw (here, there, add-one, add-one) refl

  -- without such a mark they aren't cut
  pub not_cut : (mark i : ℕ) (ts : List X) → length ts ≤ i → NoneBefore mark i ts → up_to (is_this mark) (map bytes ts) ≡ None
  unfolding up_to
  not_cut mark i [] past none = refl
  not_cut mark zero (t ∷ ts) past none = absurd (omega arith)
  not_cut mark (suc i) (t ∷ ts) past none =
      let d : X = t in
      let here : is_this mark (bytes t) ≡ false = none 0 d (omega arith) (omega arith) in
      let there = not_cut mark i ts (omega arith) (later mark i t ts none) in
      rw (here, there) refl

none_later : (said : Option (Words × Words)) (word : List ℕ) → ◌>>=◌ {B = Words × Words} said (λ others. Some (word ∷ others.0, others.1)) ≡ None → said ≡ None
none_later None word e = refl
none_later (Some others) word e = absurd (let f : ⊥ = cc in f)

-- where there is no such word, there is one part
pub split_nowhere : (ends : List ℕ → Bool) (words : Words) → up_to ends words ≡ None → slice_split ends words ≡ words ∷ []
unfolding up_to
split_nowhere ends [] none = refl
split_nowhere ends (word ∷ words) none = by (split_nowhere ends words) (ends word) refl where
  by : (up_to ends words ≡ None → slice_split ends words ≡ words ∷ []) → (here : Bool) → ends word ≡ here
      → slice_split ends (word ∷ words) ≡ (word ∷ words) ∷ []
  by rest true here = absurd (let f : ⊥ = cc (rw here at none) in f)
  by rest false here =
      let there : up_to ends words ≡ None = none_later (up_to ends words) word (rw here at none) in
      rw (here, rest there) refl

-- the part before the first such word, and the other parts
pub split_there : (ends : List ℕ → Bool) (words front after : Words) → up_to ends words ≡ Some (front, after)
    → slice_split ends words ≡ front ∷ slice_split ends after
unfolding up_to
split_there ends [] front after cut = absurd (let f : ⊥ = cc in f)
split_there ends (word ∷ words) front after cut = by (split_there ends words) (ends word) refl (up_to ends words) refl where
  by : ((f a : Words) → up_to ends words ≡ Some (f, a) → slice_split ends words ≡ f ∷ slice_split ends a) → (here : Bool) → ends word ≡ here
      → (said : Option (Words × Words)) → up_to ends words ≡ said → slice_split ends (word ∷ words) ≡ front ∷ slice_split ends after
  by rest true here said is =
      let same : ◌≡◌ {A = Option (Words × Words)} (Some ([], words)) (Some (front, after)) = rw here at cut in
      rw (here, ← made_is [] front words after same, ← rest_is [] front words after same) refl
  by rest false here None is = absurd (let f : ⊥ = cc (rw (here, is) at cut) in f)
  by rest false here (Some others) is =
      let same : ◌≡◌ {A = Option (Words × Words)} (Some (word ∷ others.0, others.1)) (Some (front, after)) = rw (here, is) at cut in
      let there = rest others.0 others.1 is in
      rw (here, there, ← made_is (word ∷ others.0) front others.1 after same, ← rest_is (word ∷ others.0) front others.1 after same) refl
