-- What one definition gives, another gives too: through the steps of both.
use Rattle.std.proofs.Common.{◌≡◌, ℕ, zero, suc, Bool, true, false, if◌then◌else◌, List, [], ◌∷◌, All, Option, None, Some, refl}
use Rattle.std.proofs.lemmas.List.Elements.{All-head, All-tail}
use Rattle.leg_lex.specs.Words.{Words, ◌>>=◌}
use Rattle.leg_lex.specs.Until.{steps, over}
use Rattle.leg_lex.proofs.Gives.{Gives, gives_itself}

-- where something is said, the other says the same
pub record Keeps {Y : Type 0} (said other : Option Y) : Type 0 where
  pub kept : (y : Y) → said ≡ Some y → other ≡ Some y

-- Nothing is said.
pub keeps_none : {Y : Type 0} (other : Option Y) → Keeps None other
keeps_none other = record { kept = λ y is. absurd (let e : ⊥ = cc in e) }

-- Both say the same.
pub keeps_itself : {Y : Type 0} (said : Option Y) → Keeps said said
keeps_itself said = record { kept = λ y is. is }

known_kept : {X Y : Type 0} (P : X → Type 0) (said other : Option X) (next after : X → Option Y) → Keeps said other → Gives P said
    → ((x : X) → P x → Keeps (next x) (after x)) → Keeps (said >>= next) (other >>= after)
known_kept P None other next after first known more = keeps_none (other >>= after)
known_kept P (Some x) other next after first known more = rw (first.kept x refl) (more x (known.given x refl))

-- A step of which something is known, and then the steps after it.
pub keeps_known : {X Y : Type 0} {P : X → Type 0} {said other : Option X} {next after : X → Option Y} → Keeps said other → Gives P said
    → ((x : X) → P x → Keeps (next x) (after x)) → Keeps (said >>= next) (other >>= after)
keeps_known {P = P} {said = said} {other = other} {next = next} {after = after} first known more = known_kept P said other next after first known more

-- A step, and then the steps after it.
pub keeps_bind : {X Y : Type 0} {said other : Option X} {next after : X → Option Y} → Keeps said other → ((x : X) → Keeps (next x) (after x))
    → Keeps (said >>= next) (other >>= after)
keeps_bind {said = said} first more = keeps_known first (gives_itself said) (λ x is. more x)

-- A choice, by the same test.
pub keeps_if : {Y : Type 0} (test : Bool) {a b c d : Option Y} → Keeps a c → Keeps b d → Keeps (if test then a else b) (if test then c else d)
keeps_if true first second = first
keeps_if false first second = second

-- Forms one after the other, each of which keeps what is said.
pub steps_keep : {S : Type 0} (stop : Words → Bool) (form other : S → Words → Option (S × Words))
    → ((made : S) (words : Words) → Keeps (form made words) (other made words)) → (n : ℕ) (made : S) (words : Words)
    → Keeps (steps stop form n made words) (steps stop other n made words)
unfolding steps
steps_keep stop form other each zero made words = keeps_none None
steps_keep stop form other each (suc n) made words =
    keeps_if (stop words) (keeps_itself (Some (made, words)))
    (keeps_bind (each made words) (λ next. steps_keep stop form other each n next.0 next.1))

-- The same over a list.
pub over_keeps : {S X : Type 0} (step other : S → X → Option S) → ((made : S) (x : X) → Keeps (step made x) (other made x)) → (made : S) (xs : List X)
    → Keeps (over step made xs) (over other made xs)
unfolding over
over_keeps step other each made [] = keeps_itself (Some made)
over_keeps step other each made (x ∷ xs) = keeps_bind (each made x) (λ next. over_keeps step other each next xs)

-- Where the one says nothing, the other may say what is new.
pub keeps_new : {Y : Type 0} (test : Bool) {said old : Option Y} (new : Option Y) → (test ≡ true → said ≡ None) → Keeps said old
    → Keeps said (if test then new else old)
keeps_new true new none same = rw (none refl) (keeps_none new)
keeps_new false new none same = same

-- A test that is met wherever the other is, without which nothing is said.
pub keeps_weaker : {Y : Type 0} (test weaker : Bool) (said : Option Y) → (test ≡ true → weaker ≡ true)
    → Keeps (if test then said else None) (if weaker then said else None)
keeps_weaker true weaker said met = rw (met refl) (keeps_itself said)
keeps_weaker false weaker said met = keeps_none (if weaker then said else None)

-- The same over a list of which each element is of this kind.
pub over_keeps_all : {S X : Type 0} (P : X → Type 0) (step other : S → X → Option S) → ((made : S) (x : X) → P x → Keeps (step made x) (other made x))
    → (made : S) (xs : List X) → All P xs → Keeps (over step made xs) (over other made xs)
unfolding over
over_keeps_all P step other each made [] all = keeps_itself (Some made)
over_keeps_all P step other each made (x ∷ xs) all =
    keeps_bind (each made x (All-head P x xs all)) (λ next. over_keeps_all P step other each next xs (All-tail P x xs all))
