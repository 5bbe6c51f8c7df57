-- The same through forms whose states differ: each state of the one run has a state of the other beside it.
use Rattle.std.proofs.Common.{◌≡◌, ℕ, zero, suc, Bool, true, false, if◌then◌else◌, Option, None, Some, refl, subst, ap}
use Rattle.std.specs.Option.{option_or}
use Rattle.leg_lex.specs.Words.{Words, ◌>>=◌}
use Rattle.leg_lex.specs.Until.{steps}
use Rattle.leg_lex.proofs.Parts.{made_is, rest_is}
use Rattle.leg_lex.proofs.Gives.{Gives, gives_itself}
use Rattle.leg_profile_laws.proofs.Keeps.{Keeps, keeps_none}

-- where something is said, the other says what stands beside it, and leaves the same words
pub record Follows {S T : Type 0} (R : S → T → Words → Type 0) (said : Option (S × Words)) (other : Option (T × Words)) : Type 0 where
  pub follows : (s : S) (rest : Words) → said ≡ Some (s, rest) → (t : T) × R s t rest × (other ≡ Some (t, rest))

-- Nothing is said.
pub follows_none : {S T : Type 0} {R : S → T → Words → Type 0} (other : Option (T × Words)) → Follows R None other
follows_none other = record { follows = λ s rest is. absurd (let e : ⊥ = cc in e) }

-- The last of a form's steps.
pub follows_some : {S T : Type 0} {R : S → T → Words → Type 0} {s : S} {t : T} (words : Words) → R s t words → Follows R (Some (s, words)) (Some (t, words))
follows_some {R = R} {s = s} {t = t} words holds = record {
  follows = λ next rest is.
      let same = rest_is s next words rest is in
      (t, subst (λ z. R z t rest) (made_is s next words rest is) (subst (λ z. R s t z) same holds), ap (λ z. Some (t, z)) same);
}

known_follows : {X S T : Type 0} {R : S → T → Words → Type 0} {P : X → Type 0} (said other : Option X) (next : X → Option (S × Words))
    (after : X → Option (T × Words)) → Keeps said other → Gives P said → ((x : X) → P x → Follows R (next x) (after x))
    → Follows R (said >>= next) (other >>= after)
known_follows None other next after first known more = follows_none (other >>= after)
known_follows (Some x) other next after first known more = rw (first.kept x refl) (more x (known.given x refl))

-- A step that both take, of which something is known, and then the steps after it.
pub follows_known : {X S T : Type 0} {R : S → T → Words → Type 0} {P : X → Type 0} {said other : Option X} {next : X → Option (S × Words)}
    {after : X → Option (T × Words)} → Keeps said other → Gives P said → ((x : X) → P x → Follows R (next x) (after x))
    → Follows R (said >>= next) (other >>= after)
follows_known {said = said} {other = other} {next = next} {after = after} first known more = known_follows said other next after first known more

-- A step that both take, and then the steps after it.
pub follows_bind : {X S T : Type 0} {R : S → T → Words → Type 0} {said other : Option X} {next : X → Option (S × Words)} {after : X → Option (T × Words)}
    → Keeps said other → ((x : X) → Follows R (next x) (after x)) → Follows R (said >>= next) (other >>= after)
follows_bind {said = said} first more = follows_known first (gives_itself said) (λ x is. more x)

-- A choice, by the same test.
pub follows_if : {S T : Type 0} {R : S → T → Words → Type 0} (test : Bool) {a b : Option (S × Words)} {c d : Option (T × Words)} → Follows R a c → Follows R b d
    → Follows R (if test then a else b) (if test then c else d)
follows_if true first second = first
follows_if false first second = second

-- What the other may say besides, where the one says nothing.
pub follows_or : {S T : Type 0} {R : S → T → Words → Type 0} {said : Option (S × Words)} {other : Option (T × Words)} (new : Option (T × Words))
    → Follows R said other → Follows R (option_or said None) (option_or other new)
follows_or {said = None} {other = other} new first = follows_none (option_or other new)
follows_or {said = Some x} new first = record {
  follows = λ s rest is.
      let beside = first.follows s rest is in
      (beside.0, beside.1, ap (λ y. option_or y new) beside.2);
}

-- What comes after both runs.
pub keeps_after : {S T Y : Type 0} {R : S → T → Words → Type 0} {said : Option (S × Words)} {other : Option (T × Words)} (next : S × Words → Option Y)
    (after : T × Words → Option Y) → Follows R said other → ((s : S) (t : T) (rest : Words) → R s t rest → Keeps (next (s, rest)) (after (t, rest)))
    → Keeps (said >>= next) (other >>= after)
keeps_after {said = None} {other = other} next after first more = keeps_none (other >>= after)
keeps_after {said = Some x} next after first more =
    let beside = first.follows x.0 x.1 refl in
    rw (beside.2) (more x.0 beside.0 x.1 beside.1)

module _ {S T : Type 0} (R : S → T → Words → Type 0) (stop : Words → Bool) where
  -- the same of the steps of two forms, which are those of this number
  abbrev Follow : (S → Words → Option (S × Words)) → (T → Words → Option (T × Words)) → ℕ → Type 0
  Follow form other n = (s : S) (t : T) (words : Words) → R s t words → Follows R (steps stop form n s words) (steps stop other n t words)

  module _ (form : S → Words → Option (S × Words)) (other : T → Words → Option (T × Words)) where
    step_follows : (n : ℕ) → Follow form other n → (said : Option (S × Words)) (beside : Option (T × Words)) → Follows R said beside
        → Follows R (said >>= λ next. steps stop form n next.0 next.1) (beside >>= λ next. steps stop other n next.0 next.1)
    step_follows n more None beside first = follows_none (beside >>= λ next. steps stop other n next.0 next.1)
    step_follows n more (Some x) beside first =
        let found = first.follows x.0 x.1 refl in
        rw (found.2) (more x.0 found.0 x.1 found.1)

    -- Forms one after the other, each of which leads to states that stand beside one another.
    pub steps_follow : ((s : S) (t : T) (words : Words) → R s t words → Follows R (form s words) (other t words)) → (n : ℕ) → Follow form other n
    unfolding steps
    steps_follow each zero s t words holds = follows_none None
    steps_follow each (suc n) s t words holds =
        follows_if (stop words) (follows_some words holds)
        (step_follows n (steps_follow each n) (form s words) (other t words) (each s t words holds))

-- where something is said, the other says what stands beside it
pub record Finds {S T : Type 0} (R : S → T → Type 0) (said : Option S) (other : Option T) : Type 0 where
  pub found : (s : S) → said ≡ Some s → (t : T) × R s t × (other ≡ Some t)

pub finds_none : {S T : Type 0} {R : S → T → Type 0} (other : Option T) → Finds R None other
finds_none other = record { found = λ s is. absurd (let e : ⊥ = cc in e) }

-- What stands beside one another.
pub finds_some : {S T : Type 0} {R : S → T → Type 0} {s : S} {t : T} → R s t → Finds R (Some s) (Some t)
finds_some {R = R} {s = s} {t = t} holds = record {
  found = λ next is.
      let same : s ≡ next = cc in
      (t, subst (λ z. R z t) same holds, refl);
}

-- The same step, and then the steps after it.
pub finds_bind : {X S T : Type 0} {R : S → T → Type 0} (said : Option X) {next : X → Option S} {after : X → Option T} → ((x : X) → Finds R (next x) (after x))
    → Finds R (said >>= next) (said >>= after)
finds_bind None {after = after} more = finds_none None
finds_bind (Some x) more = more x

-- What comes after both runs, of which something else is known.
pub finds_after : {S T Y Z : Type 0} {R : S → T → Words → Type 0} {Q : Y → Z → Type 0} {said : Option (S × Words)} {other : Option (T × Words)}
    (next : S × Words → Option Y) (after : T × Words → Option Z) → Follows R said other
    → ((s : S) (t : T) (rest : Words) → R s t rest → Finds Q (next (s, rest)) (after (t, rest))) → Finds Q (said >>= next) (other >>= after)
finds_after {said = None} {other = other} next after first more = finds_none (other >>= after)
finds_after {said = Some x} next after first more =
    let beside = first.follows x.0 x.1 refl in
    rw (beside.2) (more x.0 beside.0 x.1 beside.1)
