-- Forms one after the other: what a loop that reads them needs, and how to show that each of them takes a
-- word.
use Rattle.std.proofs.Common.{◌≡◌, ℕ, zero, suc, ◌<◌, ◌≤◌, Bool, true, false, if◌then◌else◌, length, Option, None, Some, refl, sym, ◌∙◌, arith}
use Rattle.leg_lex.specs.Words.{Words, ◌>>=◌}
use Rattle.leg_lex.specs.Until.{steps, until}
use Rattle.leg_lex.proofs.Parts.{made_is, rest_is}

-- where something is said, fewer than n words are left
pub record Below {Y : Type 0} (n : ℕ) (said : Option (Y × Words)) : Type 0 where
  pub left : (y : Y) (rest : Words) → said ≡ Some (y, rest) → length rest < n

-- each form leaves fewer words than it was given
abbrev pub Shortens : {S : Type 0} → (S → Words → Option (S × Words)) → Type 0
Shortens {S} form = (made : S) (words : Words) → Below (length words) (form made words)

-- Nothing is said.
pub below_none : {Y : Type 0} (n : ℕ) → Below {Y = Y} n None
below_none n = record { left = λ y rest said. cc }

-- The last of a form's steps: these words are left.
pub below_some : {Y : Type 0} {n : ℕ} (y : Y) (rest : Words) → length rest < n → Below n (Some (y, rest))
below_some y rest less = record {
  left = λ z after said.
      rw (← rest_is y z rest after said) less;
}

bind_left : {X Y : Type 0} {m : ℕ} (n : ℕ) (said : Option (X × Words)) (next : X × Words → Option (Y × Words)) → m ≤ n → Below m said
    → ((x : X × Words) → length x.1 < n → Below n (next x)) → (y : Y) (rest : Words) → (said >>= next) ≡ Some (y, rest) → length rest < n
bind_left n None next le first more y rest is = absurd (let e : ⊥ = cc in e)
bind_left n (Some x) next le first more y rest is =
    let less = first.left x.0 x.1 refl in
    (more x (omega arith)).left y rest is

-- A step that reads words, of which at most m are there, and then the steps after it.
pub below_bind : {X Y : Type 0} {m n : ℕ} {said : Option (X × Words)} {next : X × Words → Option (Y × Words)} → m ≤ n → Below m said
    → ((x : X × Words) → length x.1 < n → Below n (next x)) → Below n (said >>= next)
below_bind {n = n} {said = said} {next = next} le first more = record { left = bind_left n said next le first more }

ask_left : {X Y : Type 0} (n : ℕ) (said : Option X) (next : X → Option (Y × Words)) → ((x : X) → Below n (next x)) → (y : Y) (rest : Words)
    → (said >>= next) ≡ Some (y, rest) → length rest < n
ask_left n None next more y rest is = absurd (let e : ⊥ = cc in e)
ask_left n (Some x) next more y rest is = (more x).left y rest is

-- A step that reads no words, and then the steps after it.
pub below_ask : {X Y : Type 0} {n : ℕ} (said : Option X) {next : X → Option (Y × Words)} → ((x : X) → Below n (next x)) → Below n (said >>= next)
below_ask {n = n} said {next = next} more = record { left = ask_left n said next more }

-- A choice.
pub below_if : {Y : Type 0} {n : ℕ} (test : Bool) {a b : Option (Y × Words)} → Below n a → Below n b → Below n (if test then a else b)
below_if true a b = a
below_if false a b = b

-- What leaves fewer than m leaves fewer than n.
pub below_more : {Y : Type 0} {m n : ℕ} {said : Option (Y × Words)} → m ≤ n → Below m said → Below n said
below_more le first = record {
  left = λ y rest said.
      let less = first.left y rest said in
      omega arith;
}

module _ {S : Type 0} (stop : Words → Bool) (form : S → Words → Option (S × Words)) where
  -- one step more of the same
  steps_stop : (n : ℕ) (made : S) (words : Words) → stop words ≡ true → steps stop form (suc n) made words ≡ Some (made, words)
  unfolding steps
  steps_stop n made words stops = rw stops refl

  steps_next : (n : ℕ) (made next : S) (words rest : Words) → stop words ≡ false → form made words ≡ Some (next, rest)
      → steps stop form (suc n) made words ≡ steps stop form n next rest
  unfolding steps
  steps_next n made next words rest goes said = rw (goes, said) refl

  steps_fail : (n : ℕ) (made : S) (words : Words) → stop words ≡ false → form made words ≡ None → steps stop form (suc n) made words ≡ None
  unfolding steps
  steps_fail n made words goes said = rw (goes, said) refl

  -- n and m of them are the same
  abbrev Same : ℕ → ℕ → Type 0
  Same n m = (made : S) (words : Words) → length words < n → length words < m → steps stop form n made words ≡ steps stop form m made words

  enough_by : Shortens form → (n m : ℕ) → Same n m → (made : S) (words : Words) → length words < suc n → length words < suc m → (stops : Bool)
      → stop words ≡ stops → (said : Option (S × Words)) → form made words ≡ said → steps stop form (suc n) made words ≡ steps stop form (suc m) made words
  enough_by shortens n m same made words few less true stops said is =
      steps_stop n made words stops ∙ sym (steps_stop m made words stops)
  enough_by shortens n m same made words few less false goes None is =
      steps_fail n made words goes is ∙ sym (steps_fail m made words goes is)
  enough_by shortens n m same made words few less false goes (Some next) is =
      let fewer = (shortens made words).left next.0 next.1 is in
      steps_next n made next.0 words next.1 goes is ∙ same next.0 next.1 (omega arith) (omega arith) ∙ sym (steps_next m made next.0 words next.1 goes is)

  -- what is enough for all the forms is enough, however much it is
  enough : Shortens form → (n m : ℕ) → Same n m
  enough shortens zero m made words few less = absurd (omega arith)
  enough shortens (suc n) zero made words few less = absurd (omega arith)
  enough shortens (suc n) (suc m) made words few less =
      enough_by shortens n m (enough shortens n m) made words few less (stop words) refl (form made words) refl

  -- The words stop the forms.
  pub ends : (made : S) (words : Words) → stop words ≡ true → until stop form made words ≡ Some (made, words)
  ends made words stops = steps_stop (length words) made words stops

  -- One more form is read.
  pub goes_on : Shortens form → (made next : S) (words rest : Words) → stop words ≡ false → form made words ≡ Some (next, rest)
      → until stop form made words ≡ until stop form next rest
  goes_on shortens made next words rest goes said =
      let fewer = (shortens made words).left next rest said in
      steps_next (length words) made next words rest goes said ∙ enough shortens (length words) (suc (length rest)) next rest fewer (omega arith)

  -- What stands there is none of the forms.
  pub fails : (made : S) (words : Words) → stop words ≡ false → form made words ≡ None → until stop form made words ≡ None
  fails made words goes said = steps_fail (length words) made words goes said

  below_by : Shortens form → (n : ℕ) → ((made : S) (words : Words) → Below (suc (length words)) (steps stop form n made words)) → (made : S) (words : Words)
      → (stops : Bool) → stop words ≡ stops → (said : Option (S × Words)) → form made words ≡ said
      → Below (suc (length words)) (steps stop form (suc n) made words)
  below_by shortens n same made words true stops said is =
      rw (steps_stop n made words stops) (below_some made words (omega arith))
  below_by shortens n same made words false goes None is =
      rw (steps_fail n made words goes is) (below_none (suc (length words)))
  below_by shortens n same made words false goes (Some next) is =
      let fewer = (shortens made words).left next.0 next.1 is in
      rw (steps_next n made next.0 words next.1 goes is) (below_more (omega arith) (same next.0 next.1))

  steps_below : Shortens form → (n : ℕ) (made : S) (words : Words) → Below (suc (length words)) (steps stop form n made words)
  unfolding steps
  steps_below shortens zero made words = below_none (suc (length words))
  steps_below shortens (suc n) made words =
      below_by shortens n (steps_below shortens n) made words (stop words) refl (form made words) refl

  -- All of them together leave no more words than there were.
  pub until_below : Shortens form → (made : S) (words : Words) → Below (suc (length words)) (until stop form made words)
  until_below shortens made words = steps_below shortens (suc (length words)) made words

  keeps_by : (P : S → Type 0) → ((made : S) (words : Words) (next : S) (rest : Words) → P made → form made words ≡ Some (next, rest) → P next) → (n : ℕ)
      → ((made : S) (words : Words) (last : S) (rest : Words) → P made → steps stop form n made words ≡ Some (last, rest) → P last)
      → (made : S) (words : Words) (last : S) (rest : Words) → P made → steps stop form (suc n) made words ≡ Some (last, rest) → (stops : Bool)
      → stop words ≡ stops → (said : Option (S × Words)) → form made words ≡ said → P last
  keeps_by P keeps n same made words last rest holds all true stops said is =
      let e = made_is made last words rest (sym (steps_stop n made words stops) ∙ all) in
      rw (← e) holds
  keeps_by P keeps n same made words last rest holds all false goes None is =
      absurd (let e : ⊥ = cc (steps_fail n made words goes is) in e)
  keeps_by P keeps n same made words last rest holds all false goes (Some next) is =
      same next.0 next.1 last rest (keeps made words next.0 next.1 holds is) (sym (steps_next n made next.0 words next.1 goes is) ∙ all)

  steps_keep : (P : S → Type 0) → ((made : S) (words : Words) (next : S) (rest : Words) → P made → form made words ≡ Some (next, rest) → P next) → (n : ℕ)
      → (made : S) (words : Words) (last : S) (rest : Words) → P made → steps stop form n made words ≡ Some (last, rest) → P last
  unfolding steps
  steps_keep P keeps zero made words last rest holds all = absurd (let e : ⊥ = cc in e)
  steps_keep P keeps (suc n) made words last rest holds all =
      keeps_by P keeps n (steps_keep P keeps n) made words last rest holds all (stop words) refl (form made words) refl

  -- What each of them keeps, all of them keep.
  pub until_keeps : (P : S → Type 0) → ((made : S) (words : Words) (next : S) (rest : Words) → P made → form made words ≡ Some (next, rest) → P next)
      → (made : S) (words : Words) (last : S) (rest : Words) → P made → until stop form made words ≡ Some (last, rest) → P last
  until_keeps P keeps made words last rest holds all = steps_keep P keeps (suc (length words)) made words last rest holds all
