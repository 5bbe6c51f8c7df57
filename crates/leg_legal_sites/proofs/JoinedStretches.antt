-- Stretches in lists that are joined end to end.
use Rattle.std.proofs.Common.{◌≡◌, ◌⊎◌, ℕ, ◌+◌, ◌-◌, ◌<◌, ◌≤◌, Bool, true, false, List, [], ◌∷◌, ◌++◌, Some, slice_get, length, get_or, take, drop, All, AllPairs, Contains, if◌then◌else◌, inl, inr, refl, sym, ap, ◌∙◌, arith}
use Rattle.std.specs.Prelude.{nat_lt}
use Rattle.std.proofs.lemmas.Bool.{ltb-true, lt-ltb}
use Rattle.std.proofs.lemmas.List.{length-take, length-drop, get_or-take, get_or-drop}
use Rattle.std.proofs.lemmas.List.Elements.{Contains-append_left, Contains-append_right, Contains-append_cases}
use Rattle.std.proofs.lemmas.Option.{slice_get-get_or, slice_get_within, get_or_from_slice_get}
use Rattle.leg_legal_sites.specs.declared.stretch.Stretch.{Stretch}
use Rattle.leg_legal_sites.specs.Steps.Stretches.{IsFreeSite}
use Rattle.leg_legal_sites.specs.Steps.TakeSites.{if_any}

-- a site lies in a stretch of the list
pub record FreeIn (free : List Stretch) (k : ℕ) : Type 0 where
  pub stretch : Stretch
  pub has : Contains free stretch
  pub above : stretch.from ≤ k
  pub below : k < stretch.end

pub from_free_in : (free : List Stretch) (k : ℕ) → FreeIn free k → IsFreeSite free k
from_free_in free k lies = record {
  number = lies.has.0;
  stretch = lies.stretch;
  there = slice_get-get_or free lies.has.0 lies.stretch lies.has.1 ∙ ap Some lies.has.2;
  above = lies.above;
  below = lies.below;
}

pub to_free_in : (free : List Stretch) (k : ℕ) → IsFreeSite free k → FreeIn free k
to_free_in free k site = record {
  stretch = site.stretch;
  has = (site.number, slice_get_within free site.number site.stretch site.there, get_or_from_slice_get free site.number site.stretch site.stretch site.there);
  above = site.above;
  below = site.below;
}

pub free_append_cases : (xs ys : List Stretch) (k : ℕ) → FreeIn (xs ++ ys) k → FreeIn xs k ⊎ FreeIn ys k
free_append_cases xs ys k lies =
    elim (Contains-append_cases xs ys lies.stretch lies.has) [
      | inl has ↦ inl (record { stretch = lies.stretch; has = has; above = lies.above; below = lies.below })
      | inr has ↦ inr (record { stretch = lies.stretch; has = has; above = lies.above; below = lies.below })
    ]

pub free_append_left : (xs ys : List Stretch) (k : ℕ) → FreeIn xs k → FreeIn (xs ++ ys) k
free_append_left xs ys k lies =
    record { stretch = lies.stretch; has = Contains-append_left xs ys lies.stretch lies.has; above = lies.above; below = lies.below }

pub free_append_right : (xs ys : List Stretch) (k : ℕ) → FreeIn ys k → FreeIn (xs ++ ys) k
free_append_right xs ys k lies =
    record { stretch = lies.stretch; has = Contains-append_right xs ys lies.stretch lies.has; above = lies.above; below = lies.below }

-- a stretch at a place of the list
pub record IsAt {X : Type 0} (xs : List X) (i : ℕ) (x : X) : Type 0 where
  pub there : slice_get xs i ≡ Some x

pub at_from_take : {X : Type 0} (n : ℕ) (xs : List X) (x : X) → Contains (take n xs) x → (i : ℕ) × (i < n) × IsAt xs i x
at_from_take n xs x has =
    let i = has.0 in
    let within : i < length (take n xs) = has.1 in
    let many = length-take n xs in
    let is = get_or-take n xs i x (omega arith) in
    (i, omega arith, record { there = slice_get-get_or xs i x (omega arith) ∙ ap Some (sym is ∙ has.2) })

pub take_has : {X : Type 0} (n : ℕ) (xs : List X) (i : ℕ) (x : X) → i < n → slice_get xs i ≡ Some x → Contains (take n xs) x
take_has n xs i x before there =
    let within = slice_get_within xs i x there in
    let many = length-take n xs in
    (i, omega arith, get_or-take n xs i x before ∙ get_or_from_slice_get xs i x x there)

pub at_from_drop : {X : Type 0} (n : ℕ) (xs : List X) (x : X) → Contains (drop n xs) x → (i : ℕ) × (n ≤ i) × IsAt xs i x
at_from_drop n xs x has =
    let i = has.0 in
    let within : i < length (drop n xs) = has.1 in
    let many = length-drop n xs in
    let is = get_or-drop n xs i x in
    (n + i, omega arith, record { there = slice_get-get_or xs (n + i) x (omega arith) ∙ ap Some (sym is ∙ has.2) })

pub drop_has : {X : Type 0} (n : ℕ) (xs : List X) (i : ℕ) (x : X) → n ≤ i → slice_get xs i ≡ Some x → Contains (drop n xs) x
drop_has n xs i x after there =
    let within = slice_get_within xs i x there in
    let many = length-drop n xs in
    let sum : n + (i - n) ≡ i = omega arith in
    (i - n, omega arith, get_or-drop n xs (i - n) x ∙ ap (λ m. get_or xs m x) sum ∙ get_or_from_slice_get xs i x x there)

-- what holds of each element at a place below n, and from n on
pub all_take : {X : Type 0} (P : X → Type 0) (n : ℕ) (xs : List X) → ((i : ℕ) (x : X) → i < n → slice_get xs i ≡ Some x → P x) → All P (take n xs)
all_take P n xs each k d within =
    let many = length-take n xs in
    let is = get_or-take n xs k d (omega arith) in
    rw is (each k (get_or xs k d) (omega arith) (slice_get-get_or xs k d (omega arith)))

pub all_drop : {X : Type 0} (P : X → Type 0) (n : ℕ) (xs : List X) → ((i : ℕ) (x : X) → n ≤ i → slice_get xs i ≡ Some x → P x) → All P (drop n xs)
all_drop P n xs each k d within =
    let many = length-drop n xs in
    let is = get_or-drop n xs k d in
    rw is (each (n + k) (get_or xs (n + k) d) (omega arith) (slice_get-get_or xs (n + k) d (omega arith)))

pub pairs_take : {X : Type 0} (R : X → X → Type 0) (n : ℕ) (xs : List X) → AllPairs R xs → AllPairs R (take n xs)
pairs_take R n xs pairs i j d order within =
    let many = length-take n xs in
    rw (get_or-take n xs i d (omega arith), get_or-take n xs j d (omega arith)) (pairs i j d order (omega arith))

pub pairs_drop : {X : Type 0} (R : X → X → Type 0) (n : ℕ) (xs : List X) → AllPairs R xs → AllPairs R (drop n xs)
pairs_drop R n xs pairs i j d order within =
    let many = length-drop n xs in
    rw (get_or-drop n xs i d, get_or-drop n xs j d) (pairs (n + i) (n + j) d (omega arith) (omega arith))

-- the rest of a stretch, if it has a site
all_one : {X : Type 0} (P : X → Type 0) (x : X) → P x → All P (x ∷ [])
all_one P x holds k d within = let first : k ≡ 0 = omega arith in rw first holds

all_of : (P : Stretch → Type 0) (s : Stretch) (b : Bool) → (b ≡ true → P s) → All P (if b then s ∷ [] else [])
all_of P s true holds = all_one P s (holds refl)
all_of P s false holds = λ k d within. absurd (omega arith)

pub all_if_any : (P : Stretch → Type 0) (s : Stretch) → (s.from < s.end → P s) → All P (if_any s)
all_if_any P s if_some =
    all_of P s (nat_lt s.from s.end) (λ t. if_some (ltb-true s.from s.end t))

pairs_of : (R : Stretch → Stretch → Type 0) (s : Stretch) (b : Bool) → AllPairs R (if b then s ∷ [] else [])
pairs_of R s true = λ i j d order within. absurd (omega arith)
pairs_of R s false = λ i j d order within. absurd (omega arith)

pub pairs_if_any : (R : Stretch → Stretch → Type 0) (s : Stretch) → AllPairs R (if_any s)
pairs_if_any R s = pairs_of R s (nat_lt s.from s.end)

free_in_one : (s : Stretch) (k : ℕ) (b : Bool) → FreeIn (if b then s ∷ [] else []) k → (s.from ≤ k) × (k < s.end)
free_in_one s k true one =
    let within : one.has.0 < 1 = one.has.1 in
    let first : one.has.0 ≡ 0 = omega arith in
    let is : get_or (s ∷ []) one.has.0 one.stretch ≡ one.stretch = one.has.2 in
    let same : s ≡ one.stretch = rw first at is in
    let from : s.from ≡ one.stretch.from = ap (λ t. t.from) same in
    let end : s.end ≡ one.stretch.end = ap (λ t. t.end) same in
    let above = one.above in
    let below = one.below in
    (omega arith, omega arith)
free_in_one s k false one = let within : one.has.0 < 0 = one.has.1 in absurd (omega arith)

pub free_in_any : (s : Stretch) (k : ℕ) → FreeIn (if_any s) k → (s.from ≤ k) × (k < s.end)
free_in_any s k lies = free_in_one s k (nat_lt s.from s.end) lies

one_has : (s : Stretch) (k : ℕ) (b : Bool) → b ≡ true → s.from ≤ k → k < s.end → FreeIn (if b then s ∷ [] else []) k
one_has s k true t above below = record { stretch = s; has = (0, omega arith, refl); above = above; below = below }
one_has s k false t above below = absurd cc

pub any_has : (s : Stretch) (k : ℕ) → s.from ≤ k → k < s.end → FreeIn (if_any s) k
any_has s k above below =
    one_has s k (nat_lt s.from s.end) (lt-ltb s.from s.end (omega arith)) above below
