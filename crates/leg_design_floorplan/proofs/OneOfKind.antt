-- How far a look through a list for the one element of a kind has come.
use Rattle.std.proofs.Common.{◌≡◌, ℕ, ◌+◌, ◌<◌, ◌≤◌, Bool, true, false, List, [], ◌∷◌, ◌++◌, length, get_or, take, drop, Option, None, Some, is_some, filter, refl, sym, ap, ◌∙◌}
use Rattle.std.proofs.lemmas.List.{take_all, append-nil, take-append-drop, drop_more}
use Rattle.std.proofs.lemmas.List.Elements.{filter_more, filter-append}
use Rattle.std.proofs.lemmas.Bool.{false≢true}
use Rattle.leg_lex.specs.Statements.{at_most_one}

-- the one that was found, if one was
abbrev pub as_list : {X : Type 0} → Option X → List X
as_list None = []
as_list (Some x) = x ∷ []

two_or_more : {X : Type 0} (found : Option X) (x : X) (after : List X) → is_some found ≡ true → at_most_one (as_list found ++ x ∷ after) ≡ None
two_or_more None x after some = absurd (false≢true some)
two_or_more (Some y) x after some = refl

at_most : {X : Type 0} (found : Option X) → at_most_one (as_list found) ≡ Some found
at_most None = refl
at_most (Some x) = refl

module _ {X : Type 0} (test : X → Bool) where
  -- one more element, of another kind or of this one
  pub passed_over : (xs found : List X) (i : ℕ) (x : X) → i < length xs → x ≡ get_or xs i x → test x ≡ false → filter test (take i xs) ≡ found
      → filter test (take (i + 1) xs) ≡ found
  passed_over xs found i x less is other before =
      let there : test (get_or xs i x) ≡ false = rw (← is) other in
      filter_more test xs i x less ∙ rw (there, before) (append-nil found)

  pub found_first : (xs : List X) (i : ℕ) (x : X) → i < length xs → x ≡ get_or xs i x → test x ≡ true → filter test (take i xs) ≡ []
      → filter test (take (i + 1) xs) ≡ x ∷ []
  found_first xs i x less is this before =
      let there : test (get_or xs i x) ≡ true = rw (← is) this in
      filter_more test xs i x less ∙ rw (there, before, ← is) refl

  -- a second element of the kind
  pub found_second : (xs : List X) (found : Option X) (i : ℕ) (x : X) → i < length xs → x ≡ get_or xs i x → test x ≡ true → is_some found ≡ true
      → filter test (take i xs) ≡ as_list found → at_most_one (filter test xs) ≡ None
  found_second xs found i x less is this some before =
      let whole : xs ≡ take i xs ++ x ∷ drop (i + 1) xs =
      sym (take-append-drop i xs) ∙ ap (λ zs. take i xs ++ zs) (drop_more xs i x less ∙ ap (λ z. z ∷ drop (i + 1) xs) (sym is)) in
      let those : filter test xs ≡ filter test (take i xs) ++ filter test (x ∷ drop (i + 1) xs) =
      ap (filter test) whole ∙ filter-append test (take i xs) (x ∷ drop (i + 1) xs) in
      let here : filter test (x ∷ drop (i + 1) xs) ≡ x ∷ filter test (drop (i + 1) xs) = rw this refl in
      ap at_most_one (those ∙ ap (λ zs. filter test (take i xs) ++ zs) here)
      ∙ rw before (two_or_more found x (filter test (drop (i + 1) xs)) some)

  -- no element is left
  pub looked_through : (xs : List X) (i : ℕ) (found : Option X) → length xs ≤ i → filter test (take i xs) ≡ as_list found
      → at_most_one (filter test xs) ≡ Some found
  looked_through xs i found past before =
      let all : filter test (take i xs) ≡ filter test xs = ap (filter test) (take_all i xs past) in
      ap at_most_one (sym all ∙ before) ∙ at_most found
