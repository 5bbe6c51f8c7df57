-- What holds of all that a form may say, step by step.
use Rattle.std.proofs.Common.{◌≡◌, Bool, true, false, if◌then◌else◌, Option, None, Some, refl}
use Rattle.leg_lex.specs.Words.{◌>>=◌}

-- where something is said, it is of this kind
pub record Gives {Y : Type 0} (P : Y → Type 0) (said : Option Y) : Type 0 where
  pub given : (y : Y) → said ≡ Some y → P y

pub gives_none : {Y : Type 0} {P : Y → Type 0} → Gives P None
gives_none = record { given = λ y is. absurd (let e : ⊥ = cc in e) }

some_of : {Y : Type 0} (P : Y → Type 0) (x y : Y) → P x → ◌≡◌ {A = Option Y} (Some x) (Some y) → P y
some_of P x y holds is =
    let same : x ≡ y = cc in
    rw (← same) holds

pub gives_some : {Y : Type 0} {P : Y → Type 0} (x : Y) → P x → Gives P (Some x)
gives_some {P = P} x holds = record { given = λ y is. some_of P x y holds is }

bind_given : {X Y : Type 0} (P : Y → Type 0) (Q : X → Type 0) (said : Option X) (next : X → Option Y) → Gives Q said → ((x : X) → Q x → Gives P (next x))
    → Gives P (said >>= next)
bind_given P Q None next first more = gives_none
bind_given P Q (Some x) next first more = more x (first.given x refl)

-- A step of which something is known, and then the steps after it.
pub gives_bind : {X Y : Type 0} {P : Y → Type 0} {Q : X → Type 0} {said : Option X} {next : X → Option Y} → Gives Q said → ((x : X) → Q x → Gives P (next x))
    → Gives P (said >>= next)
gives_bind {P = P} {Q = Q} {said = said} {next = next} first more = bind_given P Q said next first more

skip_given : {X Y : Type 0} (P : Y → Type 0) (said : Option X) (next : X → Option Y) → ((x : X) → Gives P (next x)) → Gives P (said >>= next)
skip_given P None next more = gives_none
skip_given P (Some x) next more = more x

-- A step, and then the steps after it.
pub gives_skip : {X Y : Type 0} {P : Y → Type 0} (said : Option X) {next : X → Option Y} → ((x : X) → Gives P (next x)) → Gives P (said >>= next)
gives_skip {P = P} said {next = next} more = skip_given P said next more

-- What is said itself.
pub gives_itself : {Y : Type 0} (said : Option Y) → Gives (λ y. said ≡ Some y) said
gives_itself said = record { given = λ y is. is }

-- A choice, by a test that is known to hold or not.
pub gives_choice : {Y : Type 0} {P : Y → Type 0} (test : Bool) {a b : Option Y} → (test ≡ true → Gives P a) → (test ≡ false → Gives P b)
    → Gives P (if test then a else b)
gives_choice true a b = a refl
gives_choice false a b = b refl

-- A choice.
pub gives_if : {Y : Type 0} {P : Y → Type 0} (test : Bool) {a b : Option Y} → Gives P a → Gives P b → Gives P (if test then a else b)
gives_if true a b = a
gives_if false a b = b

-- What is weaker.
pub gives_less : {Y : Type 0} {P Q : Y → Type 0} {said : Option Y} → Gives Q said → ((y : Y) → Q y → P y) → Gives P said
gives_less first weaker = record { given = λ y is. weaker y (first.given y is) }
