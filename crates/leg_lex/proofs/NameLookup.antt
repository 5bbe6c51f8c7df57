-- Where a name stands among names.
use Rattle.std.proofs.Common.{◌≡◌, ◌≢◌, ℕ, zero, suc, ◌+◌, ◌<◌, ◌≤◌, nat_lt, Bool, true, false, cond, List, [], ◌∷◌, ◌++◌, length, length-append, get_or, take, map, IfSome, Option, None, Some, option_map, Bor, refl, sym, ap, ◌∙◌, arith}
use Rattle.std.specs.Str.{bytes_eq}
use Rattle.std.specs.HashMap as hash
use Rattle.std.specs.HashMap.{HashMap}
use Rattle.std.proofs.lemmas.Slice.Eq.{bytes_eq-Decides}
use Rattle.std.proofs.Math.Seq.{get_or-append_seam}
use Rattle.std.proofs.lemmas.List.{length-map, get_or_append_left, get_or_default, get_or-take, length-take}
use Rattle.std.proofs.lemmas.Bool.Decides.{nat_tests}
use Rattle.std.proofs.lemmas.Bool.{false_from_ne_true, false≢true}
use Rattle.std.proofs.lemmas.Map.Text.{hash_map_updates_str}
use Rattle.leg_lex.specs.NameLookup.{place_of, AreApart}

-- the test of names
pub same_name : (a b : List ℕ) → bytes_eq a b ≡ true → a ≡ b
same_name a b same = (bytes_eq-Decides a b).0 same

pub name_itself : (a : List ℕ) → bytes_eq a a ≡ true
name_itself a = (bytes_eq-Decides a a).1 refl

pub other_name : (a b : List ℕ) → (a ≡ b → ⊥) → bytes_eq a b ≡ false
other_name a b apart = false_from_ne_true (bytes_eq a b) (λ same. apart (same_name a b same))

pub names_apart : (a b : List ℕ) → bytes_eq a b ≡ false → a ≡ b → ⊥
names_apart a b apart same = false≢true (sym apart ∙ (bytes_eq-Decides a b).1 same)

pub same_other_way : (a b : List ℕ) → bytes_eq a b ≡ bytes_eq b a
same_other_way a b = by (bytes_eq a b) refl (bytes_eq b a) refl where
  by : (one : Bool) → bytes_eq a b ≡ one → (other : Bool) → bytes_eq b a ≡ other → bytes_eq a b ≡ bytes_eq b a
  by true p true q = p ∙ sym q
  by true p false q = absurd (names_apart b a q (sym (same_name a b p)))
  by false p true q = absurd (names_apart a b p (sym (same_name b a q)))
  by false p false q = p ∙ sym q

-- where a name that isn't among the others is the first
place_first : (name first : List ℕ) (names : List (List ℕ)) → bytes_eq name first ≡ true → place_of name (first ∷ names) ≡ Some 0
place_first name first names same = rw same refl

place_later : (name first : List ℕ) (names : List (List ℕ)) → bytes_eq name first ≡ false → place_of name (first ∷ names) ≡ option_map suc (place_of name names)
place_later name first names apart = rw apart refl

some_suc : (o : Option ℕ) → option_map suc o ≡ None → o ≡ None
some_suc None e = refl
some_suc (Some n) e = absurd (let f : ⊥ = cc in f)

-- A name that isn't there is neither the first nor among the others.
pub none_parts : (name first : List ℕ) (names : List (List ℕ)) → place_of name (first ∷ names) ≡ None
    → (bytes_eq name first ≡ false) × (place_of name names ≡ None)
none_parts name first names none = by (bytes_eq name first) refl where
  by : (same : Bool) → bytes_eq name first ≡ same → (bytes_eq name first ≡ false) × (place_of name names ≡ None)
  by true same = absurd (let f : ⊥ = cc (place_first name first names same) in f)
  by false apart = (apart, some_suc (place_of name names) (sym (place_later name first names apart) ∙ none))

-- After a push of a name that isn't there, that name has the last place, and the others have theirs.
pub place_of_push : (name : List ℕ) (names : List (List ℕ)) → place_of name names ≡ None → (other : List ℕ)
    → place_of other (names ++ name ∷ []) ≡ cond (bytes_eq name other) (Some (length names)) (place_of other names)
place_of_push name [] none other = rw (same_other_way other name) refl
place_of_push name (first ∷ names) none other =
    by (place_of_push name names parts.1 other) (bytes_eq other first) refl (bytes_eq name other) refl where
      parts : (bytes_eq name first ≡ false) × (place_of name names ≡ None)
      parts = none_parts name first names none

      by : place_of other (names ++ name ∷ []) ≡ cond (bytes_eq name other) (Some (length names)) (place_of other names) → (here : Bool)
          → bytes_eq other first ≡ here → (new : Bool) → bytes_eq name other ≡ new
          → place_of other (first ∷ names ++ name ∷ []) ≡ cond (bytes_eq name other) (Some (length (first ∷ names))) (place_of other (first ∷ names))
      by rest true here true new =
          absurd (names_apart name first parts.0 (same_name name other new ∙ same_name other first here))
      by rest true here false new = rw (here, new) refl
      by rest false here true new = rw (here, rest, new) refl
      by rest false here false new = rw (here, rest, new) refl

-- the name stands at the place i, and not before it
pub record IsPlacedOn (name : List ℕ) (names : List (List ℕ)) (i : ℕ) : Type 0 where
  pub within : i < length names
  pub there : (d : List ℕ) → get_or names i d ≡ name
  pub first : (k : ℕ) (d : List ℕ) → k < i → get_or names k d ≢ name

-- A place that is found is the name's.
pub place_stands : (name : List ℕ) (names : List (List ℕ)) (i : ℕ) → place_of name names ≡ Some i → IsPlacedOn name names i
place_stands name [] i found = absurd (let f : ⊥ = cc in f)
place_stands name (first ∷ names) i found = by (place_stands name names) (bytes_eq name first) refl (place_of name names) refl where
  by : ((k : ℕ) → place_of name names ≡ Some k → IsPlacedOn name names k) → (here : Bool) → bytes_eq name first ≡ here → (o : Option ℕ)
      → place_of name names ≡ o → IsPlacedOn name (first ∷ names) i
  by rest true here o is =
      let zeroth : i ≡ 0 = cc (place_first name first names here) in
      rw zeroth (record {
        within = omega arith;
        there = λ d. sym (same_name name first here);
        first = λ k d less. absurd (omega arith);
      })
  by rest false apart None is = absurd (let f : ⊥ = cc (place_later name first names apart, ap (option_map suc) is) in f)
  by rest false apart (Some j) is =
      let later : i ≡ suc j = cc (place_later name first names apart, ap (option_map suc) is) in
      let stands = rest j is in
      rw later (record {
        within = omega (arith, stands.within);
        there = λ d. stands.there d;
        first = none_before j (λ k d less. stands.first k d less);
      }) where
        none_before : (j : ℕ) → ((k : ℕ) (d : List ℕ) → k < j → get_or names k d ≢ name) → (k : ℕ) (d : List ℕ) → k < suc j → get_or (first ∷ names) k d ≢ name
        none_before j rest zero d less = λ same. names_apart name first apart (sym same)
        none_before j rest (suc k) d less = rest k d (omega arith)

-- A place that is found among the names of things is a thing's.
pub place_in_list : {X : Type 0} (name_of : X → List ℕ) (name : List ℕ) (xs : List X) (found : Option ℕ) → found ≡ place_of name (map name_of xs)
    → IfSome found (λ k. k < length xs)
place_in_list name_of name xs None is = tt
place_in_list name_of name xs (Some k) is =
    let within = (place_stands name (map name_of xs) k (sym is)).within in
    rw length-map at within

-- and so many things fit as stand up to it, where all do
pub fits_up_to : (Fits : ℕ → Type 0) → ((m n : ℕ) → m ≤ n → Fits n → Fits m) → (count : ℕ) → Fits count → (found : Option ℕ) → IfSome found (λ k. k < count)
    → IfSome found (λ k. Fits (k + 1))
fits_up_to Fits fewer count all None within = tt
fits_up_to Fits fewer count all (Some k) within = fewer (k + 1) count (omega (arith, within)) all

-- A name that stands nowhere isn't found.
pub stands_nowhere : (name : List ℕ) (names : List (List ℕ)) → ((k : ℕ) (d : List ℕ) → k < length names → get_or names k d ≢ name) → place_of name names ≡ None
stands_nowhere name [] none = refl
stands_nowhere name (first ∷ names) none =
    let apart : bytes_eq name first ≡ false = other_name name first (λ same. none 0 name (omega arith) (sym same)) in
    let rest : place_of name names ≡ None = stands_nowhere name names (λ k d less. none (suc k) d (omega arith)) in
    rw (apart, rest) refl

-- An index that has each name's place has it after a push as well.
pub index_push : {S : Type 0} (name : Bor (List ℕ)) (m n : HashMap (Bor (List ℕ)) ℕ S) (names after : List (List ℕ)) (place : ℕ)
    → place_of name.now names ≡ None → ((q : List ℕ) → hash.get_by (λ key. bytes_eq q key.now) m ≡ place_of q names)
    → hash.UpdatesBy (λ x y. bytes_eq x.now y.now) (λ key. bytes_eq name.now key.now) m n (Some place) → place ≡ length names → after ≡ names ++ name.now ∷ []
    → (q : List ℕ) → hash.get_by (λ key. bytes_eq q key.now) n ≡ place_of q after
index_push name m n names after place none places updates last more q =
    hash_map_updates_str name.now m n (Some place) updates q
    ∙ ap (λ o. cond (bytes_eq name.now q) (Some place) o) (places q)
    ∙ ap (λ p. cond (bytes_eq name.now q) (Some p) (place_of q names)) last
    ∙ sym (place_of_push name.now names none q)
    ∙ ap (place_of q) (sym more)

-- After a push of a name that isn't there, no two of the names are the same.
pub apart_push : (name : List ℕ) (names : List (List ℕ)) → place_of name names ≡ None → AreApart names → AreApart (names ++ name ∷ [])
apart_push name names none apart i less = by (nat_lt i (length names)) refl where
  all : List (List ℕ)
  all = names ++ name ∷ []

  earlier : (q : List ℕ) → place_of q names ≡ Some i → (same : Bool) → bytes_eq name q ≡ same → place_of q all ≡ Some i
  earlier q there true same = absurd (let e : name ≡ q = same_name name q same in let f : ⊥ = cc in f)
  earlier q there false other = place_of_push name names none q ∙ rw other there

  by : (before : Bool) → nat_lt i (length names) ≡ before → place_of (get_or all i []) all ≡ Some i
  by true before =
      let within : i < length names = grind (arith, nat_tests) in
      rw (get_or_append_left names (name ∷ []) [] i within) (earlier (get_or names i []) (apart i within) (bytes_eq name (get_or names i [])) refl)
  by false last =
      let end : i ≡ length names = grind (arith, nat_tests, length-append names (name ∷ [])) in
      let it : get_or all i [] ≡ name = rw end (get_or-append_seam names name [] []) in
      rw (it, place_of_push name names none name, name_itself name, end) refl

-- A name that stands after others isn't among them.
pub not_yet_there : (names : List (List ℕ)) (i : ℕ) (d : List ℕ) → AreApart names → i < length names → place_of (get_or names i d) (take i names) ≡ None
not_yet_there names i d apart less = stands_nowhere (get_or names i d) (take i names) nowhere where
  at : place_of (get_or names i d) names ≡ Some i
  at = rw (get_or_default names i d [] less) (apart i less)

  nowhere : (k : ℕ) (e : List ℕ) → k < length (take i names) → get_or (take i names) k e ≢ get_or names i d
  nowhere k e within =
      let before : k < i = omega (arith, length-take i names) in
      rw (get_or-take i names k e before) ((place_stands (get_or names i d) names i at).first k e before)
