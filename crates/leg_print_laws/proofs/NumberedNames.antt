-- A name that is printed for a number is found at this number again.
use Rattle.std.proofs.Common.{◌≡◌, ℕ, ◌<◌, Bool, true, length-append, List, [], ◌∷◌, ◌++◌, All, length, get_or, map, slice_get, None, Some, IsTrue, refl, sym, ◌∙◌, subst, arith}
use Rattle.std.specs.List.{list_all, flat_map}
use Rattle.std.proofs.Math.Seq.{get_or-append_seam, take-append_seam}
use Rattle.std.proofs.lemmas.List.{length-map, map-append}
use Rattle.std.proofs.lemmas.List.Elements.{All-nil, All-cons, All-get_or}
use Rattle.std.proofs.lemmas.List.Folds.{list_all-append}
use Rattle.std.proofs.lemmas.Option.{slice_get_within, get_or_from_slice_get, slice_get-map}
use Rattle.std.proofs.lemmas.Bool.{and_parts}
use Rattle.leg_lemmas.proofs.Places.{all_at}
use Rattle.leg_lex.specs.Words.{Words, is_name}
use Rattle.leg_lex.specs.NameLookup.{place_of, AreApart}
use Rattle.leg_lex.proofs.NameLookup.{not_yet_there}

pub within : {X : Type 0} (xs : List X) (y : X) (ys : List X) → length xs < length (xs ++ (y ∷ ys))
within xs y ys = rw (length-append xs (y ∷ ys)) (omega arith)

module _ {X : Type 0} (name_of : X → List ℕ) where
  name_there : (xs : List X) (i : ℕ) (x : X) (d : List ℕ) → slice_get xs i ≡ Some x → get_or (map name_of xs) i d ≡ name_of x
  name_there xs i x d is =
      get_or_from_slice_get (map name_of xs) i (name_of x) d (slice_get-map name_of xs i ∙ rw is refl)

  -- the name of an element is found where it stands
  pub found : (xs : List X) (i : ℕ) (x : X) → slice_get xs i ≡ Some x → AreApart (map name_of xs) → place_of (name_of x) (map name_of xs) ≡ Some i
  found xs i x is apart =
      let less : i < length (map name_of xs) = rw (length-map xs name_of) (slice_get_within xs i x is) in
      subst (λ name. place_of name (map name_of xs) ≡ Some i) (name_there xs i x [] is) (apart i less)

  -- and is a name
  pub name_is : (xs : List X) (i : ℕ) (x : X) → slice_get xs i ≡ Some x → All (λ name. IsTrue (is_name name)) (map name_of xs) → is_name (name_of x) ≡ true
  name_is xs i x is each =
      all_at (λ name. IsTrue (is_name name)) (map name_of xs) i (name_of x) each (slice_get-map name_of xs i ∙ rw is refl)

  -- a name that stands behind others isn't among them
  pub not_before : (front : List X) (x : X) (back : List X) → AreApart (map name_of (front ++ (x ∷ back))) → place_of (name_of x) (map name_of front) ≡ None
  not_before front x back apart =
      let e : map name_of (front ++ (x ∷ back)) ≡ map name_of front ++ (name_of x ∷ map name_of back) = map-append name_of front (x ∷ back) in
      let free =
      not_yet_there (map name_of front ++ (name_of x ∷ map name_of back)) (length (map name_of front)) [] (subst AreApart e apart)
      (within (map name_of front) (name_of x) (map name_of back)) in
      rw (get_or-append_seam (map name_of front) (name_of x) (map name_of back) [], take-append_seam (map name_of front) (name_of x ∷ map name_of back)) at free

-- what holds of each element holds of one in the middle
pub middle : {X : Type 0} (P : X → Type 0) (xs before : List X) (x : X) (after : List X) → xs ≡ before ++ (x ∷ after) → All P xs → P x
middle P xs before x after is each =
    subst P (get_or-append_seam before x after x) (All-get_or P (before ++ (x ∷ after)) (length before) x (within before x after) (subst (All P) is each))

-- and there are fewer before it than there are
pub fewer_before : {X : Type 0} (xs before : List X) (x : X) (after : List X) → xs ≡ before ++ (x ∷ after) → length before < length xs
fewer_before xs before x after is = rw is (within before x after)

-- tests of all words, of two runs, and of each element's words
pub first_run_passes : (p : List ℕ → Bool) (v w : Words) → list_all p (v ++ w) ≡ true → list_all p v ≡ true
first_run_passes p v w all = (and_parts (list_all p v) (list_all p w) (sym (list_all-append p v w) ∙ all)).0

pub next_run_passes : (p : List ℕ → Bool) (v w : Words) → list_all p (v ++ w) ≡ true → list_all p w ≡ true
next_run_passes p v w all = (and_parts (list_all p v) (list_all p w) (sym (list_all-append p v w) ∙ all)).1

pub each_passes : {X : Type 0} (p : List ℕ → Bool) (words : X → Words) (xs : List X) → list_all p (flat_map words xs) ≡ true
    → All (λ x. list_all p (words x) ≡ true) xs
each_passes p words [] all = All-nil (λ x. list_all p (words x) ≡ true)
each_passes p words (x ∷ xs) all =
    All-cons (λ y. list_all p (words y) ≡ true) x xs (first_run_passes p (words x) (flat_map words xs) all)
    (each_passes p words xs (next_run_passes p (words x) (flat_map words xs) all))
