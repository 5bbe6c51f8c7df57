-- A list, of which each element is taken in turn: what a loop over it needs. The element is given as its
-- own default, as a loop knows it.
use Rattle.std.proofs.Common.{◌≡◌, ℕ, ◌+◌, ◌<◌, ◌≤◌, List, [], ◌∷◌, length, get_or, drop, Option, None, Some, refl, sym, ap, ◌∙◌}
use Rattle.std.proofs.lemmas.List.{drop_more, drop_all}
use Rattle.leg_lex.specs.Until.{over}

-- An element is the first of those from its place on.
pub at_front : {X : Type 0} (xs : List X) (i : ℕ) (x : X) → i < length xs → x ≡ get_or xs i x → drop i xs ≡ x ∷ drop (i + 1) xs
at_front xs i x less is = drop_more xs i x less ∙ ap (λ y. y ∷ drop (i + 1) xs) (sym is)

module _ {S X : Type 0} (step : S → X → Option S) where
  -- No element is left.
  pub over_ends : (made : S) (xs : List X) (i : ℕ) → length xs ≤ i → over step made (drop i xs) ≡ Some made
  unfolding over
  over_ends made xs i past = rw (drop_all i xs past) refl

  -- One more element is taken.
  pub over_goes_on : (made next : S) (xs : List X) (i : ℕ) (x : X) → i < length xs → x ≡ get_or xs i x → step made x ≡ Some next
      → over step made (drop i xs) ≡ over step next (drop (i + 1) xs)
  unfolding over
  over_goes_on made next xs i x less is said = rw (at_front xs i x less is, said) refl

  -- An element isn't taken.
  pub over_fails : (made : S) (xs : List X) (i : ℕ) (x : X) → i < length xs → x ≡ get_or xs i x → step made x ≡ None → over step made (drop i xs) ≡ None
  unfolding over
  over_fails made xs i x less is said = rw (at_front xs i x less is, said) refl

  -- What each element keeps, all of them keep.
  pub over_keeps : (P : S → Type 0) → ((made : S) (x : X) (next : S) → P made → step made x ≡ Some next → P next) → (made : S) (xs : List X) (last : S) → P made
      → over step made xs ≡ Some last → P last
  unfolding over
  over_keeps P keeps made [] last holds all =
      let same : made ≡ last = cc in
      rw (← same) holds
  over_keeps P keeps made (x ∷ xs) last holds all = by (λ next. over_keeps P keeps next xs last) (step made x) refl where
    by : ((next : S) → P next → over step next xs ≡ Some last → P last) → (said : Option S) → step made x ≡ said → P last
    by rest None is = absurd (let e : ⊥ = cc (rw is at all) in e)
    by rest (Some next) is = rest next (keeps made x next holds is) (rw is at all)
