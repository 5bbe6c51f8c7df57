-- Numbers in lists, and under names.
use Rattle.std.proofs.Common.{◌≡◌, ℕ, ◌<◌, Bool, true, false, nat_eq, List, [], ◌∷◌, ◌++◌, length, get_or, get_or-set_same, get_or-set_other, set, take, drop, length-set, Contains, Option, None, Some, refl, ◌∙◌, inl, inr, arith}
use Rattle.std.specs.List.{flat_map}
use Rattle.std.specs.Str.{bytes_eq}
use Rattle.std.proofs.lemmas.Bool.{cases_eq, false≢true, or_right, or_left}
use Rattle.std.proofs.lemmas.Bool.Decides.{nat_tests}
use Rattle.std.proofs.lemmas.List.{get_or_append_left, get_or_default, drop_all, take_all, append-nil}
use Rattle.std.proofs.lemmas.List.Folds.{list_any-append}
use Rattle.std.proofs.lemmas.Map.Views.{Contains-from_any}
use Rattle.std.proofs.Math.Seq.{get_or-append_seam}
use Rattle.leg_lex.specs.NameLookup.{place_of}
use Rattle.leg_lex.proofs.NameLookup.{name_itself, same_name, place_of_push, place_stands}
use Rattle.leg_design_records.proofs.SameTerminal.{number_itself}
use Rattle.leg_design_nets.specs.Steps.Pins.{is_in, list_at, numbers_under}

same_number : (m n : ℕ) → nat_eq m n ≡ true → m ≡ n
same_number m n same = grind (arith, nat_tests, same)

pub contains_number : (n : ℕ) (numbers : List ℕ) → is_in n numbers ≡ true → Contains numbers n
contains_number n numbers is = Contains-from_any same_number n numbers is

pub in_front : (n : ℕ) (numbers more : List ℕ) → is_in n numbers ≡ true → is_in n (numbers ++ more) ≡ true
in_front n numbers more is = list_any-append (nat_eq n) numbers more ∙ or_left (is_in n numbers) (is_in n more) is

pub in_behind : (n : ℕ) (numbers more : List ℕ) → is_in n more ≡ true → is_in n (numbers ++ more) ≡ true
in_behind n numbers more is = list_any-append (nat_eq n) numbers more ∙ or_right (is_in n numbers) (is_in n more) is

in_one : (n : ℕ) → is_in n (n ∷ []) ≡ true
in_one n = or_left (nat_eq n n) false (number_itself n)

pub in_last : (n : ℕ) (numbers : List ℕ) → is_in n (numbers ++ n ∷ []) ≡ true
in_last n numbers = in_behind n numbers (n ∷ []) (in_one n)

-- what is in a list is in the lists joined
pub in_joined : (f : ℕ → List ℕ) (n k : ℕ) (places : List ℕ) → is_in k places ≡ true → is_in n (f k) ≡ true → is_in n (flat_map f places) ≡ true
in_joined f n k [] there is = absurd (false≢true there)
in_joined f n k (first ∷ places) there is = by (λ later. in_joined f n k places later is) (nat_eq k first) refl where
  by : (is_in k places ≡ true → is_in n (flat_map f places) ≡ true) → (here : Bool) → nat_eq k first ≡ here → is_in n (f first ++ flat_map f places) ≡ true
  by rest true here =
      let place : k ≡ first = same_number k first here in
      in_front n (f first) (flat_map f places) (rw (← place) is)
  by rest false apart =
      in_behind n (f first) (flat_map f places) (rest (rw apart at there))

-- The list in one place has one more number.
module _ (lists : List (List ℕ)) (place number : ℕ) (within : place < length lists) where
  abbrev longer : List (List ℕ)
  longer = set lists place (get_or lists place [] ++ number ∷ [])

  pub number_added : is_in number (get_or longer place []) ≡ true
  number_added =
      rw (get_or-set_same lists place (get_or lists place [] ++ number ∷ []) [] within) (in_last number (get_or lists place []))

  pub numbers_kept : (k n : ℕ) → is_in n (get_or lists k []) ≡ true → is_in n (get_or longer k []) ≡ true
  numbers_kept k n is =
      elim (cases_eq k place) [
        | inl here ↦
            rw (here, get_or-set_same lists place (get_or lists place [] ++ number ∷ []) [] within)
            (in_front n (get_or lists place []) (number ∷ []) (rw here at is))
        | inr other ↦ rw (get_or-set_other lists place k (get_or lists place [] ++ number ∷ []) [] other) is
      ]

  pub kept_under : (where_is : Option ℕ) (n : ℕ) → is_in n (list_at lists where_is) ≡ true → is_in n (list_at longer where_is) ≡ true
  kept_under None n is = is
  kept_under (Some k) n is = numbers_kept k n is

  -- a name whose list it is
  pub added_found : (names : List (List ℕ)) (name : List ℕ) (whole : List (List ℕ)) → place_of name names ≡ Some place → whole ≡ longer
      → is_in number (numbers_under (record { names = names; lists = whole }) name) ≡ true
  added_found names name whole found put = rw (found, put) number_added

  pub kept_found : (names : List (List ℕ)) (whole : List (List ℕ)) → whole ≡ longer → (other : List ℕ) (n : ℕ)
      → is_in n (numbers_under (record { names = names; lists = lists }) other) ≡ true
      → is_in n (numbers_under (record { names = names; lists = whole }) other) ≡ true
  kept_found names whole put other n is = rw put (kept_under (place_of other names) n is)

  -- all lists are written back
  pub written : (after : List (List ℕ)) (n : ℕ) → after ≡ longer → n ≡ length lists → take n (after ++ drop (length after) lists) ≡ longer
  written after n put whole =
      let size : length longer ≡ length lists = length-set lists place (get_or lists place [] ++ number ∷ []) in
      rw (put, drop_all (length longer) lists (omega (arith, size)), append-nil longer) (take_all n longer (omega (arith, whole, size)))

-- A name that isn't there yet has one number.
module _ (names : List (List ℕ)) (lists : List (List ℕ)) (name : List ℕ) (number : ℕ) (long : length lists ≡ length names)
    (none : place_of name names ≡ None) where
  abbrev more : List (List ℕ)
  more = lists ++ (number ∷ []) ∷ []

  pub new_added : is_in number (list_at more (place_of name (names ++ name ∷ []))) ≡ true
  new_added =
      rw (place_of_push name names none name, name_itself name, ← long, get_or-append_seam lists (number ∷ []) [] []) (in_one number)

  pub new_kept : (other : List ℕ) (n : ℕ) → is_in n (list_at lists (place_of other names)) ≡ true
      → is_in n (list_at more (place_of other (names ++ name ∷ []))) ≡ true
  new_kept other n is = by (bytes_eq name other) refl (place_of other names) refl where
    by : (new : Bool) → bytes_eq name other ≡ new → (found : Option ℕ) → place_of other names ≡ found
        → is_in n (list_at more (place_of other (names ++ name ∷ []))) ≡ true
    by true new found there =
        let same : name ≡ other = same_name name other new in
        absurd (false≢true (rw (← same, none) at is))
    by false apart None there = absurd (false≢true (rw there at is))
    by false apart (Some k) there =
        let within : k < length lists = rw long (place_stands other names k there).within in
        rw (place_of_push name names none other, apart, there, get_or_append_left lists ((number ∷ []) ∷ []) [] k within) (rw there at is)

  pub new_name_added : (names_after : List (List ℕ)) (after : List (List ℕ)) → names_after ≡ names ++ name ∷ [] → after ≡ more
      → is_in number (numbers_under (record { names = names_after; lists = after }) name) ≡ true
  new_name_added names_after after named put = rw (named, put) new_added

  pub new_name_kept : (names_after : List (List ℕ)) (after : List (List ℕ)) → names_after ≡ names ++ name ∷ [] → after ≡ more → (other : List ℕ) (n : ℕ)
      → is_in n (numbers_under (record { names = names; lists = lists }) other) ≡ true
      → is_in n (numbers_under (record { names = names_after; lists = after }) other) ≡ true
  new_name_kept names_after after named put other n is = rw (named, put) (new_kept other n is)

-- the list of a name that is there
pub under_found : (names : List (List ℕ)) (lists : List (List ℕ)) (name : List ℕ) (place : ℕ) (list : List ℕ) → place_of name names ≡ Some place
    → place < length lists → list ≡ get_or lists place list → list ≡ numbers_under (record { names = names; lists = lists }) name
under_found names lists name place list found within is = rw found (is ∙ get_or_default lists place list [] within)
