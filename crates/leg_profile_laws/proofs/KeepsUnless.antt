-- Forms that say the same unless the words that are left stop them all.
use Rattle.std.proofs.Common.{◌≡◌, ℕ, zero, suc, ◌⊎◌, inl, inr, ⊎_elim, Bool, true, false, if◌then◌else◌, Option, None, Some, refl, subst}
use Rattle.leg_lex.proofs.Parts.{rest_is}
use Rattle.leg_lex.specs.Words.{Words, ◌>>=◌}
use Rattle.leg_lex.specs.Until.{steps}
use Rattle.leg_profile_laws.proofs.Keeps.{Keeps, keeps_none, keeps_itself, keeps_if}

-- where something is said, the other says the same, or the words that are left are of this kind
pub record KeepsUnless {Y : Type 0} (Stuck : Words → Type 0) (said other : Option (Y × Words)) : Type 0 where
  pub kept : (y : Y) (rest : Words) → said ≡ Some (y, rest) → (other ≡ Some (y, rest)) ⊎ Stuck rest

-- The same is said.
pub unless_kept : {Y : Type 0} {Stuck : Words → Type 0} {said other : Option (Y × Words)} → Keeps said other → KeepsUnless Stuck said other
unless_kept first = record { kept = λ y rest is. inl (first.kept (y, rest) is) }

bind_unless : {X Y : Type 0} (Stuck : Words → Type 0) (said other : Option X) (next after : X → Option (Y × Words)) → Keeps said other
    → ((x : X) → KeepsUnless Stuck (next x) (after x)) → KeepsUnless Stuck (said >>= next) (other >>= after)
bind_unless Stuck None other next after first more = unless_kept (keeps_none (other >>= after))
bind_unless Stuck (Some x) other next after first more = rw (first.kept x refl) (more x)

-- A step, and then the steps after it.
pub unless_bind : {X Y : Type 0} {Stuck : Words → Type 0} {said other : Option X} {next after : X → Option (Y × Words)} → Keeps said other
    → ((x : X) → KeepsUnless Stuck (next x) (after x)) → KeepsUnless Stuck (said >>= next) (other >>= after)
unless_bind {Stuck = Stuck} {said = said} {other = other} {next = next} {after = after} first more = bind_unless Stuck said other next after first more

-- A choice, by the same test.
pub unless_if : {Y : Type 0} {Stuck : Words → Type 0} (test : Bool) {a b c d : Option (Y × Words)} → KeepsUnless Stuck a c → KeepsUnless Stuck b d
    → KeepsUnless Stuck (if test then a else b) (if test then c else d)
unless_if true first second = first
unless_if false first second = second

-- What is made of what is said, where the same words are left.
pub unless_made : {X Y : Type 0} {Stuck : Words → Type 0} (make : X → Y) (said other : Option (X × Words)) → KeepsUnless Stuck said other
    → KeepsUnless Stuck (said >>= λ x. Some (make x.0, x.1)) (other >>= λ x. Some (make x.0, x.1))
unless_made make None other first = unless_kept (keeps_none (other >>= λ x. Some (make x.0, x.1)))
unless_made {Stuck = Stuck} make (Some x) other first =
    ⊎_elim (λ same. rw same (unless_kept (keeps_itself (Some (make x.0, x.1)))))
    (λ stuck. record { kept = λ y rest is. inr (subst Stuck (rest_is (make x.0) y x.1 rest is) stuck) }) (first.kept x.0 x.1 refl)

module _ {S : Type 0} (stop : Words → Bool) (form other : S → Words → Option (S × Words)) where
  stays_stuck : (n : ℕ) (made : S) (words : Words) → stop words ≡ false → form made words ≡ None → steps stop form n made words ≡ None
  unfolding steps
  stays_stuck zero made words goes none = refl
  stays_stuck (suc n) made words goes none = rw (goes, none) refl

  step_keeps : (Stuck : Words → Type 0) (n : ℕ) → ((made : S) (words : Words) → Stuck words → steps stop form n made words ≡ None)
      → ((made : S) (words : Words) → Keeps (steps stop form n made words) (steps stop other n made words)) → (said beside : Option (S × Words))
      → KeepsUnless Stuck said beside
      → Keeps (said >>= λ next. steps stop form n next.0 next.1) (beside >>= λ next. steps stop other n next.0 next.1)
  step_keeps Stuck n stuck same None beside first = keeps_none (beside >>= λ next. steps stop other n next.0 next.1)
  step_keeps Stuck n stuck same (Some x) beside first =
      ⊎_elim (λ e. rw e (same x.0 x.1))
      (λ there. rw (stuck x.0 x.1 there) (keeps_none (beside >>= λ next. steps stop other n next.0 next.1))) (first.kept x.0 x.1 refl)

  -- Forms one after the other, where words of this kind stop the first.
  pub steps_keep_unless : (Stuck : Words → Type 0) → ((words : Words) → Stuck words → stop words ≡ false)
      → ((made : S) (words : Words) → Stuck words → form made words ≡ None)
      → ((made : S) (words : Words) → KeepsUnless Stuck (form made words) (other made words)) → (n : ℕ) (made : S) (words : Words)
      → Keeps (steps stop form n made words) (steps stop other n made words)
  unfolding steps
  steps_keep_unless Stuck goes none each zero made words = keeps_none None
  steps_keep_unless Stuck goes none each (suc n) made words =
      keeps_if (stop words) (keeps_itself (Some (made, words)))
      (step_keeps Stuck n (λ s rest there. stays_stuck n s rest (goes rest there) (none s rest there)) (steps_keep_unless Stuck goes none each n)
      (form made words) (other made words) (each made words))
