-- Terminals that are the same, and those that are among others.
use Rattle.std.proofs.Common.{◌≡◌, ℕ, Bool, true, ◌==◌, List, Contains, refl, ap, ◌∙◌, arith, rules}
use Rattle.std.specs.List.{list_any}
use Rattle.std.proofs.lemmas.Bool.{false≢true, and_parts}
use Rattle.std.proofs.lemmas.Bool.Decides.{nat_tests}
use Rattle.std.proofs.lemmas.List.Folds.{list_any_at, Any-from_list_any}
use Rattle.leg_design_records.specs.contracts.records.TerminalPartialEq.TheImpl.{eq-value}
use Rattle.leg_design_records.specs.declared.records.Terminal.{Terminal}
use Rattle.leg_design_records.specs.declared.records.Terminal.TheVariants.{Comp, Pin}
use Rattle.leg_design_records.specs.Terminals.{is_same_terminal, is_among}

-- what the comparison of two terminals answers
pub terminal_eq_is : (a b : Terminal) → eq-value.it a b ≡ is_same_terminal a b
terminal_eq_is (Comp c k) (Comp d l) = search rules
terminal_eq_is (Comp c k) (Pin q) = refl
terminal_eq_is (Pin p) (Comp d l) = refl
terminal_eq_is (Pin p) (Pin q) = search rules

-- a terminal is the same as itself alone
pub same_is : (a b : Terminal) → is_same_terminal a b ≡ true → a ≡ b
same_is (Comp c k) (Comp d l) same =
    let parts = and_parts (c == d) (k == l) same in
    let first : c ≡ d = grind (arith, nat_tests, parts.0) in
    let second : k ≡ l = grind (arith, nat_tests, parts.1) in
    rw (first, second) refl
same_is (Comp c k) (Pin q) same = absurd (false≢true same)
same_is (Pin p) (Comp d l) same = absurd (false≢true same)
same_is (Pin p) (Pin q) same =
    let is : p ≡ q = grind (arith, nat_tests, same) in
    rw is refl

pub number_itself : (n : ℕ) → (n == n) ≡ true
number_itself n = grind (arith, nat_tests)

pub same_itself : (a : Terminal) → is_same_terminal a a ≡ true
same_itself (Comp c k) = rw (number_itself c, number_itself k) refl
same_itself (Pin p) = number_itself p

-- an element that passes the test
pub record Passes {X : Type 0} (test : X → Bool) (xs : List X) : Type 0 where
  pub it : X
  pub in_list : Contains xs it
  pub passes : test it ≡ true

pub passes_from : {X : Type 0} (test : X → Bool) (xs : List X) → list_any test xs ≡ true → Passes test xs
passes_from test xs some =
    let any = Any-from_list_any test xs some in
    record { it = any.1; in_list = (any.0, any.2, any.3); passes = any.4 }

pub some_passes : {X : Type 0} (test : X → Bool) (xs : List X) (x : X) → Contains xs x → test x ≡ true → list_any test xs ≡ true
some_passes test xs x there passes = list_any_at test xs there.0 x there.1 (ap test there.2 ∙ passes)

-- what is listed is among the terminals
pub among_from : (t : Terminal) (terminals : List Terminal) → Contains terminals t → is_among t terminals ≡ true
among_from t terminals there = some_passes (is_same_terminal t) terminals t there (same_itself t)

pub among_contains : (t : Terminal) (terminals : List Terminal) → is_among t terminals ≡ true → Contains terminals t
among_contains t terminals among =
    let found = passes_from (is_same_terminal t) terminals among in
    rw (same_is t found.it found.passes) found.in_list
