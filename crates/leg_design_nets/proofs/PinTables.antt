-- Where pins of macros stand by their names, macro by macro.
use Rattle.std.proofs.Common.{◌≡◌, ℕ, suc, ◌+◌, ◌<◌, ◌≤◌, Bool, true, false, List, [], ◌∷◌, ◌++◌, length, length-append, get_or, set, length-set, take, map, slice_get, is_some, Option, None, Some, option_map, Bor, refl, sym, ap, ◌∙◌, inl, inr, ◌⊎◌, ⊎_elim, arith}
use Rattle.std.specs.HashMap as hash
use Rattle.std.specs.HashMap.{HashMap}
use Rattle.std.specs.Str.{bytes_eq}
use Rattle.std.proofs.lemmas.Bool.{cases_eq, cases_lt, false≢true}
use Rattle.std.proofs.lemmas.List.{length-take, map-append, take_more}
use Rattle.std.proofs.lemmas.Option.{slice_get_past}
use Rattle.leg_lemmas.proofs.Places.{in_first, get_last, last_or_before}
use Rattle.leg_lemmas.proofs.Options.{none_is}
use Rattle.leg_lex.specs.Words.{◌>>=◌}
use Rattle.leg_lex.specs.NameLookup.{place_of}
use Rattle.leg_lex.proofs.NameLookup.{same_name, index_push}
use Rattle.leg_lib_records.specs.Records.{MasterPinModel, MasterModel}
use Rattle.leg_design_records.specs.declared.records.Component.{Component}
use Rattle.leg_design_nets.specs.Steps.Pins.{is_in, place_in_table, place_in_tables, used_names, AreListed, ArePinPlaces, AreUnder}
use Rattle.leg_design_nets.proofs.NamedNumbers.{number_added, numbers_kept}

-- one more element behind those that were taken
pub taken : {X : Type 0} (xs : List X) (i : ℕ) (x : X) → i < length xs → x ≡ get_or xs i x → take (i + 1) xs ≡ take i xs ++ x ∷ []
taken xs i x less is = take_more xs i x less ∙ ap (λ y. take i xs ++ y ∷ []) (sym is)

pub taken_length : {X : Type 0} (xs : List X) (i : ℕ) → i < length xs → length (take i xs) ≡ i
taken_length xs i less = let long = length-take i xs in omega (arith, long, less)

-- an element of a list with one more behind it
past_end : {X : Type 0} (xs : List X) (y : X) (m : ℕ) → length xs < m → slice_get (xs ++ y ∷ []) m ≡ None
past_end xs y m more = slice_get_past (xs ++ y ∷ []) m (let long = length-append xs (y ∷ []) in omega (arith, long, more))

-- the names of pins
abbrev pub pin_names : List MasterPinModel → List (List ℕ)
pin_names pins = map (λ p. p.name) pins

pub names_taken : (pins : List MasterPinModel) (i : ℕ) (x : MasterPinModel) → i < length pins → x ≡ get_or pins i x
    → pin_names (take (i + 1) pins) ≡ pin_names (take i pins) ++ x.name ∷ []
names_taken pins i x less is = ap pin_names (taken pins i x less is) ∙ map-append (λ (p : MasterPinModel). p.name) (take i pins) (x ∷ [])

some_suc : (o : Option ℕ) → is_some (option_map suc o) ≡ is_some o
some_suc None = refl
some_suc (Some n) = refl

-- another name at the end
place_before : (q name : List ℕ) (names : List (List ℕ)) → bytes_eq q name ≡ false → place_of q (names ++ name ∷ []) ≡ place_of q names
place_before q name [] apart = rw apart refl
place_before q name (first ∷ names) apart = rw (place_before q name names apart) refl

-- a name at the end that stands before it too
pub place_again : (name : List ℕ) (names : List (List ℕ)) → is_some (place_of name names) ≡ true → (q : List ℕ)
    → place_of q (names ++ name ∷ []) ≡ place_of q names
place_again name [] there q = absurd (false≢true there)
place_again name (first ∷ names) there q =
    by (λ later. place_again name names later q) (bytes_eq name first) refl (bytes_eq q first) refl (bytes_eq q name) refl where
      by : (is_some (place_of name names) ≡ true → place_of q (names ++ name ∷ []) ≡ place_of q names) → (here : Bool) → bytes_eq name first ≡ here
          → (found : Bool)
          → bytes_eq q first ≡ found → (last : Bool) → bytes_eq q name ≡ last → place_of q (first ∷ names ++ name ∷ []) ≡ place_of q (first ∷ names)
      by rest here is true found last end = rw found refl
      by rest here is false found false end = rw (found, place_before q name names end) refl
      by rest true is false found true end =
          let same : q ≡ name = same_name q name end in
          absurd (false≢true (sym found ∙ rw same is))
      by rest false is false found true end =
          let later : is_some (place_of name names) ≡ true = sym (some_suc (place_of name names)) ∙ rw is at there in
          rw (found, rest later) refl

-- the name at the end, or one before it
pub some_place : (q name : List ℕ) (names : List (List ℕ)) → is_some (place_of q (names ++ name ∷ [])) ≡ true → (is_some (place_of q names) ≡ true) ⊎ (q ≡ name)
some_place q name names there = by (bytes_eq q name) refl where
  by : (last : Bool) → bytes_eq q name ≡ last → (is_some (place_of q names) ≡ true) ⊎ (q ≡ name)
  by true end = inr (same_name q name end)
  by false apart = inl (ap (λ (o : Option ℕ). is_some o) (sym (place_before q name names apart)) ∙ there)

module _ {S : Type 0} where
  -- A name that the table has says nothing new.
  pub places_known : (table : HashMap (Bor (List ℕ)) ℕ S) (pins : List MasterPinModel) (i : ℕ) (x : MasterPinModel) → i < length pins → x ≡ get_or pins i x
      → ((q : List ℕ) → place_in_table table q ≡ place_of q (pin_names (take i pins))) → is_some (place_in_table table x.name) ≡ true → (q : List ℕ)
      → place_in_table table q ≡ place_of q (pin_names (take (i + 1) pins))
  places_known table pins i x less is places known q =
      let there : is_some (place_of x.name (pin_names (take i pins))) ≡ true = ap (λ (o : Option ℕ). is_some o) (sym (places x.name)) ∙ known in
      places q ∙ sym (ap (place_of q) (names_taken pins i x less is) ∙ place_again x.name (pin_names (take i pins)) there q)

  -- A new name has the last place.
  pub places_new : (name : Bor (List ℕ)) (table after : HashMap (Bor (List ℕ)) ℕ S) (pins : List MasterPinModel) (i : ℕ) (x : MasterPinModel) → i < length pins
      → x ≡ get_or pins i x → name.now ≡ x.name → ((q : List ℕ) → place_in_table table q ≡ place_of q (pin_names (take i pins)))
      → is_some (place_in_table table name.now) ≡ false → hash.UpdatesBy (λ a b. bytes_eq a.now b.now) (λ key. bytes_eq name.now key.now) table after (Some i)
      → (q : List ℕ) → place_in_table after q ≡ place_of q (pin_names (take (i + 1) pins))
  places_new name table after pins i x less is named places new updates =
      let none : place_of name.now (pin_names (take i pins)) ≡ None =
      none_is (place_of name.now (pin_names (take i pins))) (ap (λ (o : Option ℕ). is_some o) (sym (places name.now)) ∙ new) in
      let long : i ≡ length (pin_names (take i pins)) = sym (mapped_length (take i pins) ∙ taken_length pins i less) in
      index_push name table after (pin_names (take i pins)) (pin_names (take (i + 1) pins)) i none places updates long
      (names_taken pins i x less is ∙ ap (λ n. pin_names (take i pins) ++ n ∷ []) (sym named)) where
        mapped_length : (ps : List MasterPinModel) → length (pin_names ps) ≡ length ps
        mapped_length [] = refl
        mapped_length (p ∷ ps) = ap suc (mapped_length ps)

  -- The places of one more macro.
  pub places_more : (masters : List MasterModel) (lists : List (List ℕ)) (tables : List (HashMap (Bor (List ℕ)) ℕ S)) (table : HashMap (Bor (List ℕ)) ℕ S)
      (i : ℕ) (x : MasterModel)
      → i < length masters → x ≡ get_or masters i x → length tables ≡ i → ArePinPlaces (take i masters) lists (place_in_tables tables)
      → ((q : List ℕ) → place_in_table table q ≡ place_of q (used_names x (get_or lists i [])))
      → ArePinPlaces (take (i + 1) masters) lists (place_in_tables (tables ++ table ∷ []))
  places_more masters lists tables table i x less is long before new m q =
      rw (taken masters i x less is) (by (cases_lt m i) (cases_eq m i)) where
        size : length (take i masters) ≡ i
        size = taken_length masters i less

        by : (m < i) ⊎ (i ≤ m) → (m ≡ i) ⊎ (m ≡ i → ⊥)
            → place_in_tables (tables ++ table ∷ []) m q ≡ (slice_get (take i masters ++ x ∷ []) m >>= λ master. place_of q
            (used_names master (get_or lists m [])))
        by (inl early) either =
            rw (in_first tables (table ∷ []) m (omega (arith, long, early)), in_first (take i masters) (x ∷ []) m (omega (arith, size, early))) (before m q)
        by (inr late) (inl last) =
            let here : slice_get (tables ++ table ∷ []) m ≡ Some table = rw (last, ← long) (get_last tables table) in
            let there : slice_get (take i masters ++ x ∷ []) m ≡ Some x = rw last (rw size at (get_last (take i masters) x)) in
            rw (here, there, last) (new q)
        by (inr late) (inr other) =
            let after : i < m = omega (arith, late, other) in
            rw (past_end tables table m (omega (arith, long, after)), past_end (take i masters) x m (omega (arith, size, after))) refl

-- The macros under the names, with one more macro.
pub under_more : (masters : List MasterModel) (lists : List (List ℕ)) (old new : List ℕ → List ℕ) (i : ℕ) (x : MasterModel) → i < length masters
    → x ≡ get_or masters i x → AreUnder (take i masters) lists old → ((q : List ℕ) (m : ℕ) → is_in m (old q) ≡ true → is_in m (new q) ≡ true)
    → ((q : List ℕ) → is_some (place_of q (used_names x (get_or lists i []))) ≡ true → is_in i (new q) ≡ true) → AreUnder (take (i + 1) masters) lists new
under_more masters lists old new i x less is before kept added m master q there named =
    ⊎_elim
    (λ earlier. kept q m (before m master q earlier named))
    (λ (last : (m ≡ length (take i masters)) × (master ≡ x)).
    let place : m ≡ i = last.0 ∙ taken_length masters i less in
    rw place (added q (rw (place, last.1) at named)))
    (last_or_before (take i masters) x m master (rw (taken masters i x less is) at there))

-- that stands in the list of its macro
pub listed_more : (components : List Component) (lists after : List (List ℕ)) (i : ℕ) (x : Component) → i < length components → x ≡ get_or components i x
    → AreListed (take i components) lists → length after ≡ length lists → is_in i (get_or after x.master []) ≡ true
    → ((k n : ℕ) → is_in n (get_or lists k []) ≡ true → is_in n (get_or after k []) ≡ true) → AreListed (take (i + 1) components) after
listed_more components lists after i x less is before long added kept c component there inside =
    ⊎_elim
    (λ earlier. kept component.master c (before c component earlier (rw long at inside)))
    (λ (last : (c ≡ length (take i components)) × (component ≡ x)).
    let place : c ≡ i = last.0 ∙ taken_length components i less in
    rw (place, last.1) added)
    (last_or_before (take i components) x c component (rw (taken components i x less is) at there))

pub length_longer : (lists whole : List (List ℕ)) (place number : ℕ) → whole ≡ set lists place (get_or lists place [] ++ number ∷ [])
    → length whole ≡ length lists
length_longer lists whole place number put = rw put (length-set lists place (get_or lists place [] ++ number ∷ []))

pub listed_longer : (components : List Component) (lists whole : List (List ℕ)) (i : ℕ) (x : Component) → i < length components → x ≡ get_or components i x
    → AreListed (take i components) lists → x.master < length lists → whole ≡ set lists x.master (get_or lists x.master [] ++ i ∷ [])
    → AreListed (take (i + 1) components) whole
listed_longer components lists whole i x less is before within put =
    listed_more components lists whole i x less is before
    (length_longer lists whole x.master i put)
    (rw put (number_added lists x.master i within))
    (λ k n there. rw put (numbers_kept lists x.master i within k n there))

-- that is of no such macro
pub listed_past : (components : List Component) (lists : List (List ℕ)) (i : ℕ) (x : Component) → i < length components → x ≡ get_or components i x
    → AreListed (take i components) lists → length lists ≤ x.master → AreListed (take (i + 1) components) lists
listed_past components lists i x less is before past c component there inside =
    ⊎_elim
    (λ earlier. before c component earlier inside)
    (λ (last : (c ≡ length (take i components)) × (component ≡ x)).
    let few : x.master < length lists = rw last.1 at inside in
    absurd (omega (arith, past, few)))
    (last_or_before (take i components) x c component (rw (taken components i x less is) at there))
