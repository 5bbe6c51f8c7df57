-- Terminals and the numbers of the lists that they are in.
use Rattle.std.proofs.Common.{◌≡◌, ◌≢◌, ◌↔◌, ℕ, Bool, true, false, cond, ◌||◌, ◌==◌, List, [], ◌∷◌, ◌++◌, get_or, Option, None, Some, refl, sym, ap, ◌∙◌, arith}
use Rattle.std.specs.HashMap.{HashMap, get_by}
use Rattle.std.proofs.lemmas.Bool.{false_from_ne_true, false≢true, true≢false, or_right}
use Rattle.std.proofs.lemmas.Bool.Decides.{nat_tests}
use Rattle.std.proofs.lemmas.List.Folds.{list_any-append}
use Rattle.leg_lemmas.proofs.Lookups.{lookup_agrees}
use Rattle.leg_design_records.specs.declared.records.Terminal.{Terminal}
use Rattle.leg_design_records.specs.Terminals.{is_same_terminal, is_among}
use Rattle.leg_design_records.proofs.SameTerminal.{number_itself, same_is, same_itself}
use Rattle.leg_design_nets.specs.Steps.Index.{number_of, IsNameIndex}

-- two terminals are compared by a test that agrees with the definition's
module _ {S : Type 0} (eq : Terminal → Terminal → Bool) (agree : (a b : Terminal) → eq a b ≡ is_same_terminal a b) where
  number_by : (m : HashMap Terminal ℕ S) (t : Terminal) → number_of m t ≡ get_by (eq t) m
  number_by m t = lookup_agrees (is_same_terminal t) (eq t) (λ k. sym (agree t k)) m.entries

  pub kept_by : (m n : HashMap Terminal ℕ S) → ((q : Terminal) → get_by (eq q) n ≡ get_by (eq q) m) → (t : Terminal) → number_of n t ≡ number_of m t
  kept_by m n same t = number_by n t ∙ same t ∙ sym (number_by m t)

  pub pushed_by : (m n : HashMap Terminal ℕ S) (t : Terminal) (k : ℕ) → ((q : Terminal) → get_by (eq q) n ≡ cond (eq t q) (Some k) (get_by (eq q) m))
      → (q : Terminal) → number_of n q ≡ cond (is_same_terminal t q) (Some k) (number_of m q)
  pushed_by m n t k updates q =
      number_by n q ∙ updates q ∙ rw (agree t q, number_by m q) refl

or-false : (a : Bool) → (a || false) ≡ a
or-false true = refl
or-false false = refl

other_way : (a b : Terminal) → is_same_terminal a b ≡ false → is_same_terminal b a ≡ false
other_way a b apart =
    false_from_ne_true (is_same_terminal b a) (λ same. let e : b ≡ a = same_is b a same in false≢true (sym apart ∙ rw e (same_itself a)))

-- one more terminal in a list
among_more : (q t : Terminal) (ts : List Terminal) → is_among q (ts ++ t ∷ []) ≡ (is_among q ts || is_same_terminal q t)
among_more q t ts = list_any-append (is_same_terminal q) ts (t ∷ []) ∙ ap (λ b. is_among q ts || b) (or-false (is_same_terminal q t))

or-neither : (a b : Bool) → b ≡ false → (a || b) ≡ a
or-neither true b e = refl
or-neither false b e = e

pub some_is : (j k : ℕ) → ◌≡◌ {A = Option ℕ} (Some j) (Some k) → j ≡ k
some_is j k same = cc

-- One more terminal, which no list has, in the list k.
module _ (number after : Terminal → Option ℕ) (lists longer : List (List Terminal)) (k : ℕ) (t : Terminal) where
  pub index_more : IsNameIndex number lists → number t ≡ None → ((q : Terminal) → after q ≡ cond (is_same_terminal t q) (Some k) (number q))
      → get_or longer k [] ≡ get_or lists k [] ++ t ∷ [] → ((j : ℕ) → j ≢ k → get_or longer j [] ≡ get_or lists j []) → IsNameIndex after longer
  index_more index none updates here others q j = by (is_same_terminal t q) refl (j == k) refl where
    by : (same : Bool) → is_same_terminal t q ≡ same → (at : Bool) → (j == k) ≡ at → (after q ≡ Some j) ↔ (is_among q (get_or longer j []) ≡ true)
    by true same true at =
        let place : j ≡ k = grind (arith, nat_tests, at) in
        let it : t ≡ q = same_is t q same in
        let told : after q ≡ Some j = updates q ∙ rw (same, place) refl in
        let has : is_among q (get_or longer j []) ≡ true =
        rw (place, here, ← it, among_more t t (get_or lists k [])) (or_right (is_among t (get_or lists k [])) (is_same_terminal t t) (same_itself t)) in
        (λ _. has, λ _. told)
    by true same false at =
        let place : j ≢ k = λ e. true≢false (sym (rw e (number_itself k)) ∙ at) in
        let it : t ≡ q = same_is t q same in
        let told : after q ≡ Some k = updates q ∙ rw same refl in (
          λ found. absurd (place (some_is j k (sym found ∙ told))),
          λ has.
              let before : is_among t (get_or lists j []) ≡ true = rw (it, ← others j place) has in
              absurd (let e : ⊥ = cc (none, (index t j).1 before) in e),
        )
    by false same true at =
        let place : j ≡ k = grind (arith, nat_tests, at) in
        let told : after q ≡ number q = updates q ∙ rw same refl in
        let has : is_among q (get_or longer j []) ≡ is_among q (get_or lists j []) =
        rw (place, here, among_more q t (get_or lists k [])) (or-neither (is_among q (get_or lists k [])) (is_same_terminal q t) (other_way t q same)) in
        rw (told, has) (index q j)
    by false same false at =
        let place : j ≢ k = λ e. true≢false (sym (rw e (number_itself k)) ∙ at) in
        let told : after q ≡ number q = updates q ∙ rw same refl in
        rw (told, others j place) (index q j)

-- an index of the same lists
pub index_same : (number : Terminal → Option ℕ) (lists others : List (List Terminal)) → IsNameIndex number lists
    → ((j : ℕ) → get_or others j [] ≡ get_or lists j []) → IsNameIndex number others
index_same number lists others index same t k = rw (same k) (index t k)

pub index_by : (number after : Terminal → Option ℕ) (lists : List (List Terminal)) → IsNameIndex number lists → ((q : Terminal) → after q ≡ number q)
    → IsNameIndex after lists
index_by number after lists index same t k = rw (same t) (index t k)

module _ (number : Terminal → Option ℕ) (lists : List (List Terminal)) (index : IsNameIndex number lists) (t : Terminal) where
  pub only_at : (k j : ℕ) → number t ≡ Some k → is_among t (get_or lists j []) ≡ true → j ≡ k
  only_at k j found has = some_is j k (sym ((index t j).1 has) ∙ found)

  pub none_at : (j : ℕ) → number t ≡ None → is_among t (get_or lists j []) ≡ false
  none_at j none = false_from_ne_true (is_among t (get_or lists j [])) (λ has. let e : ⊥ = cc (none, (index t j).1 has) in e)

-- the index of no terminals
pub no_index : (number : Terminal → Option ℕ) (lists : List (List Terminal)) → ((t : Terminal) → number t ≡ None) → ((k : ℕ) → get_or lists k [] ≡ [])
    → IsNameIndex number lists
no_index number lists none empty t k =
    (λ found. absurd (let e : ⊥ = cc (none t, found) in e), λ has. absurd (false≢true (rw (empty k) at has)))
