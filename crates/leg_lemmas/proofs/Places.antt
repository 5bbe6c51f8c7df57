-- What stands at the places of a list, of one list behind another, of a list that is mapped, and of one in which an element is another.
use Rattle.std.proofs.Common.{◌≡◌, ◌≢◌, ℕ, zero, suc, ◌+◌, ◌<◌, List, [], ◌∷◌, ◌++◌, length, map, set, get_or, slice_get, slice_set, All, Contains, Option, None, Some, Bor, nat_lt, option_map, ◌⊎◌, inl, inr, refl, sym, ap, ◌∙◌, zero-add, arith}
use Rattle.std.specs.List.{range_with_len}
use Rattle.std.specs.Option.{is_some, IfSome}
use Rattle.std.proofs.lemmas.Bool.Decides.{nat_tests}
use Rattle.std.proofs.lemmas.List.FromFn.{length-range_with_len, get_or-range_with_len}
use Rattle.std.proofs.lemmas.Option.{slice_get_within, slice_get_past, slice_get-get_or, slice_get-map, slice_get_read, get_or_from_slice_get, same_Some, none-some}

-- a place at which the list has the element
pub record HasPlace {X : Type 0} (xs : List X) (x : X) : Type 0 where
  pub k : ℕ
  pub there : slice_get xs k ≡ Some x

pub place_of_contained : {X : Type 0} (xs : List X) (x : X) → Contains xs x → HasPlace xs x
place_of_contained xs x c = record { k = c.0; there = slice_get-get_or xs c.0 x c.1 ∙ ap Some c.2 }

pub contains_at : {X : Type 0} (xs : List X) (k : ℕ) (x : X) → slice_get xs k ≡ Some x → Contains xs x
contains_at xs k x there = (k, slice_get_within xs k x there, get_or_from_slice_get xs k x x there)

-- the element at a place of the list
pub there_is : {X : Type 0} (xs : List X) (i : ℕ) → i < length xs → (x : X) × (slice_get xs i ≡ Some x)
there_is [] i below = absurd (omega arith)
there_is (x ∷ xs) zero below = (x, refl)
there_is (x ∷ xs) (suc i) below = there_is xs i (omega arith)

-- what holds of each element holds of the one at a place, and of one as a loop knows it
pub all_at : {X : Type 0} (P : X → Type 0) (xs : List X) (i : ℕ) (x : X) → All P xs → slice_get xs i ≡ Some x → P x
all_at P xs i x each at = let is : get_or xs i x ≡ x = get_or_from_slice_get xs i x x at in rw is at (each i x (slice_get_within xs i x at))

pub all_read : {X : Type 0} (P : X → Type 0) (xs : List X) (i : ℕ) (x : X) → All P xs → i < length xs → x ≡ get_or xs i x → P x
all_read P xs i x each less is = all_at P xs i x each (slice_get_read xs (length xs) i x refl less is)

-- an element as a loop knows it, of a list that is another one
pub read_at : {X : Type 0} (items xs : List X) (i : ℕ) (x : X) → items ≡ xs → i < length items → x ≡ get_or items i x → slice_get xs i ≡ Some x
read_at items xs i x same less is = rw (← same) (slice_get_read items (length items) i x refl less is)

-- what a slice's get answers is the element of that place
pub got_is : {X : Type 0} (xs : List X) (i : ℕ) (got : Option (Bor X)) → is_some got ≡ nat_lt i (length xs) → IfSome got (λ x. x.now ≡ get_or xs i x.now)
    → option_map (λ x. x.now) got ≡ slice_get xs i
got_is xs i None found is = sym (slice_get_past xs i (grind (arith, nat_tests)))
got_is xs i (Some x) found is = sym (slice_get_read xs (length xs) i x.now refl (grind (arith, nat_tests)) is)

-- the only element of a list
pub the_only : {X : Type 0} (x y : X) → Contains (x ∷ []) y → x ≡ y
the_only x y c = by (place_of_contained (x ∷ []) y c).k (place_of_contained (x ∷ []) y c).there where
  by : (k : ℕ) → slice_get (x ∷ []) k ≡ Some y → x ≡ y
  by zero at = same_Some x y at
  by (suc k) at = absurd (none-some y at)

pub contains_only : {X : Type 0} (x : X) → Contains (x ∷ []) x
contains_only x = contains_at (x ∷ []) 0 x refl

-- the number at a place of the first n numbers
pub counted : (n k : ℕ) → k < n → slice_get (range_with_len 0 n) k ≡ Some k
counted n k less =
    slice_get-get_or (range_with_len 0 n) k 0 (omega (arith, length-range_with_len 0 n, less))
    ∙ ap Some (get_or-range_with_len 0 n k 0 less ∙ zero-add k)

-- an element of the first of two lists
pub get_first : {X : Type 0} (xs ys : List X) (k : ℕ) (x : X) → slice_get xs k ≡ Some x → slice_get (xs ++ ys) k ≡ Some x
get_first [] ys k x at = absurd (none-some x at)
get_first (y ∷ xs) ys zero x at = at
get_first (y ∷ xs) ys (suc k) x at = get_first xs ys k x at

pub in_first : {X : Type 0} (xs ys : List X) (i : ℕ) → i < length xs → slice_get (xs ++ ys) i ≡ slice_get xs i
in_first [] ys i less = absurd (omega arith)
in_first (x ∷ xs) ys zero less = refl
in_first (x ∷ xs) ys (suc i) less = in_first xs ys i (omega arith)

-- the last element
pub get_last : {X : Type 0} (xs : List X) (x : X) → slice_get (xs ++ x ∷ []) (length xs) ≡ Some x
get_last [] x = refl
get_last (y ∷ xs) x = get_last xs x

-- an element of a list with one more behind it: one of the others, or the last
pub last_or_before : {X : Type 0} (xs : List X) (last : X) (k : ℕ) (x : X) → slice_get (xs ++ last ∷ []) k ≡ Some x
    → (slice_get xs k ≡ Some x) ⊎ ((k ≡ length xs) × (x ≡ last))
last_or_before [] last zero x at = inr (refl, sym (same_Some last x at))
last_or_before [] last (suc k) x at = absurd (none-some x at)
last_or_before (y ∷ xs) last zero x at = inl at
last_or_before (y ∷ xs) last (suc k) x at =
    elim (last_or_before xs last k x at) [
      | inl before ↦ inl before
      | inr here ↦ inr (ap suc here.0, here.1)
    ]

-- an element of the second
pub get_second : {X : Type 0} (xs ys : List X) (k : ℕ) → slice_get (xs ++ ys) (length xs + k) ≡ slice_get ys k
get_second [] ys k = ap (slice_get ys) (omega arith)
get_second (x ∷ xs) ys k =
    let next : length (x ∷ xs) + k ≡ suc (length xs + k) = omega arith in
    ap (slice_get (x ∷ (xs ++ ys))) next ∙ get_second xs ys k

pub get_behind : {X : Type 0} (xs ys : List X) (i j : ℕ) → i ≡ length xs + j → slice_get (xs ++ ys) i ≡ slice_get ys j
get_behind xs ys i j is = ap (slice_get (xs ++ ys)) is ∙ get_second xs ys j

-- an element of two lists is one of the first, or else this one of the second
pub record InSecond {X : Type 0} (xs ys : List X) (k : ℕ) (x : X) : Type 0 where
  pub j : ℕ
  pub place : k ≡ length xs + j
  pub there : slice_get ys j ≡ Some x

pub get_cases : {X : Type 0} (xs ys : List X) (k : ℕ) (x : X) → slice_get (xs ++ ys) k ≡ Some x → (slice_get xs k ≡ Some x) ⊎ InSecond xs ys k x
get_cases [] ys k x at = inr (record { j = k; place = omega arith; there = at })
get_cases (y ∷ xs) ys zero x at = inl at
get_cases (y ∷ xs) ys (suc k) x at = by (get_cases xs ys k x at) where
  by : (slice_get xs k ≡ Some x) ⊎ InSecond xs ys k x → (slice_get (y ∷ xs) (suc k) ≡ Some x) ⊎ InSecond (y ∷ xs) ys (suc k) x
  by (inl here) = inl here
  by (inr behind) = inr (record { j = behind.j; place = omega (arith, behind.place); there = behind.there })

-- an element of what a list is mapped to comes from one
pub mapped_at : {X Y : Type 0} (f : X → Y) (xs : List X) (k : ℕ) (y : Y) → slice_get (map f xs) k ≡ Some y → (x : X) × (slice_get xs k ≡ Some x) × (y ≡ f x)
mapped_at f [] k y at = absurd (none-some y at)
mapped_at f (x ∷ xs) zero y at = (x, refl, sym (same_Some (f x) y at))
mapped_at f (x ∷ xs) (suc k) y at = mapped_at f xs k y at

pub get_or_mapped : {X Y : Type 0} (f : X → Y) (xs : List X) (k : ℕ) (x : X) (d : Y) → slice_get xs k ≡ Some x → get_or (map f xs) k d ≡ f x
get_or_mapped f xs k x d at = get_or_from_slice_get (map f xs) k (f x) d (slice_get-map f xs k ∙ ap (option_map f) at)

pub comes_from : {X Y : Type 0} (f : X → Y) (xs : List X) (y : Y) → Contains (map f xs) y → (x : X) × Contains xs x × (f x ≡ y)
comes_from f xs y c =
    let at = place_of_contained (map f xs) y c in
    let from = mapped_at f xs at.k y at.there in
    (from.0, contains_at xs at.k from.0 from.1, sym from.2)

-- a list with one element replaced: the new one, and all others
pub set_here : {X : Type 0} (xs : List X) (n : ℕ) (x y : X) → slice_get xs n ≡ Some x → slice_get (set xs n y) n ≡ Some y
set_here [] n x y at = absurd (none-some x at)
set_here (z ∷ xs) zero x y at = refl
set_here (z ∷ xs) (suc n) x y at = set_here xs n x y at

pub set_elsewhere : {X : Type 0} (xs : List X) (n m : ℕ) (y : X) → ¬ (n ≡ m) → slice_get (set xs n y) m ≡ slice_get xs m
set_elsewhere [] n m y other = refl
set_elsewhere (z ∷ xs) zero zero y other = absurd (other refl)
set_elsewhere (z ∷ xs) zero (suc m) y other = refl
set_elsewhere (z ∷ xs) (suc n) zero y other = refl
set_elsewhere (z ∷ xs) (suc n) (suc m) y other = set_elsewhere xs n m y (λ same. other (ap suc same))

-- the same for a slice
pub slice_set_here : {X : Type 0} (xs : List X) (i : ℕ) (w : X) → i < length xs → slice_get (slice_set xs i w) i ≡ Some w
slice_set_here [] i w within = absurd (omega (arith, within))
slice_set_here (x ∷ xs) zero w within = refl
slice_set_here (x ∷ xs) (suc i) w within = slice_set_here xs i w (omega (arith, within))

pub slice_set_elsewhere : {X : Type 0} (xs : List X) (i j : ℕ) (w : X) → j ≢ i → slice_get (slice_set xs i w) j ≡ slice_get xs j
slice_set_elsewhere [] i j w other = refl
slice_set_elsewhere (x ∷ xs) zero zero w other = absurd (other refl)
slice_set_elsewhere (x ∷ xs) zero (suc j) w other = refl
slice_set_elsewhere (x ∷ xs) (suc i) zero w other = refl
slice_set_elsewhere (x ∷ xs) (suc i) (suc j) w other = slice_set_elsewhere xs i j w (λ same. other (ap suc same))
