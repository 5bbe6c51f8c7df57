-- A list that is made of parts, one after another.
use Rattle.std.proofs.Common.{◌≡◌, ℕ, zero, suc, ◌+◌, List, [], ◌∷◌, ◌++◌, length, slice_get, Contains, All, Some, ◌⊎◌, inl, inr, refl, sym, ap, ◌∙◌, subst, append_assoc}
use Rattle.std.specs.List.{AllByRecursion, flat_map}
use Rattle.std.proofs.lemmas.List.{append-nil, length-append}
use Rattle.std.proofs.lemmas.List.Concat.{flat_map-append}
use Rattle.std.proofs.lemmas.List.Elements.{Contains-append_left, Contains-append_right, Contains-append_cases, All-nil, All-append}
use Rattle.std.proofs.lemmas.Option.{none-some, same_Some}
use Rattle.leg_lemmas.proofs.Contents.{Contains-nil}

abbrev pub whole : {X : Type 0} → List (List X) → List X
whole parts = flat_map (λ part. part) parts

-- what is in a part is in the whole
pub from_part : {X : Type 0} (parts : List (List X)) (k : ℕ) (part : List X) (x : X) → slice_get parts k ≡ Some part → Contains part x
    → Contains (whole parts) x
from_part [] k part x at c = absurd (none-some part at)
from_part (first ∷ parts) zero part x at c =
    let same : first ≡ part = same_Some first part at in
    Contains-append_left first (whole parts) x (rw same c)
from_part (first ∷ parts) (suc k) part x at c = Contains-append_right first (whole parts) x (from_part parts k part x at c)

-- what is in the whole is in some part: what follows for each part, follows
pub by_part : {X : Type 0} (R : Type 0) (parts : List (List X)) (x : X) → AllByRecursion (λ part. Contains part x → R) parts → Contains (whole parts) x → R
by_part R [] x each c = absurd (Contains-nil x c)
by_part R (part ∷ parts) x each c = by (by_part R parts x each.1) (Contains-append_cases part (whole parts) x c) where
  by : (Contains (whole parts) x → R) → Contains part x ⊎ Contains (whole parts) x → R
  by rest (inl here) = each.0 here
  by rest (inr later) = rest later

-- what holds in each part holds in the whole
pub all_parts : {X : Type 0} (P : X → Type 0) (parts : List (List X)) → AllByRecursion (All P) parts → All P (whole parts)
all_parts P [] each = All-nil P
all_parts P (part ∷ parts) each = All-append P part (whole parts) each.0 (all_parts P parts each.1)

-- as long as the parts together
abbrev pub lengths : {X : Type 0} → List (List X) → ℕ
lengths [] = 0
lengths (part ∷ parts) = length part + lengths parts

pub whole_length : {X : Type 0} (parts : List (List X)) → length (whole parts) ≡ lengths parts
whole_length [] = refl
whole_length (part ∷ parts) = length-append part (whole parts) ∙ ap (λ n. length part + n) (whole_length parts)

-- some parts, and those behind them
pub whole_append : {X : Type 0} (before behind : List (List X)) → whole (before ++ behind) ≡ whole before ++ whole behind
whole_append before behind = flat_map-append (λ part. part) before behind

-- part by part from s to t, with a step for each
abbrev pub AreSteps : {X S : Type 0} → (List X → S → S → Type 0) → List (List X) → S → S → Type 0
AreSteps Step [] s t = s ≡ t
AreSteps {S = S} Step (part ∷ parts) s u = (t : S) × Step part s t × AreSteps Step parts t u

-- where two steps are one of both lists, steps of the parts, after one of what is before, are one of the whole
module _ {X S : Type 0} (Step : List X → S → S → Type 0) (both : (a b : List X) (s t u : S) → Step a s t → Step b t u → Step (a ++ b) s u) where
  pub step_on : (parts : List (List X)) (before : List X) (start s t : S) → Step before start s → AreSteps Step parts s t → Step (before ++ whole parts) start t
  step_on [] before start s t first steps =
      subst (λ xs. Step xs start t) (sym (append-nil before)) (subst (Step before start) steps first)
  step_on (part ∷ parts) before start s t first steps =
      subst (λ xs. Step xs start t) (append_assoc before part (whole parts))
      (step_on parts (before ++ part) start steps.0 t (both before part start s steps.0 first steps.1) steps.2)
