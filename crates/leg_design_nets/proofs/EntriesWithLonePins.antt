-- With the lone pins too, entries of nets are what they should be, and no pin is left out whose net is there.
use Rattle.std.proofs.Common.{◌≡◌, ℕ, suc, ◌+◌, ◌<◌, Bool, true, false, ◌||◌, List, [], ◌∷◌, ◌++◌, length, slice_get, Contains, Option, None, Some, ⊎_elim, refl, sym, ap, ◌∙◌, subst, arith}
use Rattle.std.proofs.lemmas.Bool.{or_cases, or_parts, cases_eq}
use Rattle.std.proofs.lemmas.List.{map-append}
use Rattle.std.proofs.lemmas.List.Elements.{Contains-append_left, Contains-append_right, Contains-append_cases}
use Rattle.std.proofs.lemmas.Option.{slice_get_within, same_Some}
use Rattle.leg_lex.specs.NameLookup.{place_of}
use Rattle.leg_lex.proofs.NameLookup.{none_parts}
use Rattle.leg_lex.proofs.GivesAll.{named_gives_within}
use Rattle.leg_design_records.specs.declared.records.Terminal.{Terminal}
use Rattle.leg_design_records.specs.declared.records.Terminal.TheVariants.{Pin}
use Rattle.leg_grammar.specs.Def.NetScope.{NetScopeModel}
use Rattle.leg_design_records.specs.Records.{PinModel, NetModel, net_names}
use Rattle.leg_grammar.specs.Def.LonePins.{NetLists, is_listed, to_entry, to_named, with_lone_pin, with_lone_pins}
use Rattle.leg_design_records.specs.WellFormedNets.{IsInSomeNet}
use Rattle.leg_design_nets.proofs.TerminalsOfEntries.{Lists, listed, not_listed}
use Rattle.leg_design_nets.proofs.ReadLonePins.{both, HasEntries, AreGrown, to_nets, to_special}

-- a name that isn't among either names isn't among both
no_place : (name : List ℕ) (xs ys : List (List ℕ)) → place_of name xs ≡ None → place_of name ys ≡ None → place_of name (xs ++ ys) ≡ None
no_place name [] ys none other = other
no_place name (x ∷ xs) ys none other =
    let parts = none_parts name x xs none in
    rw (parts.0, no_place name xs ys parts.1 other) refl

lists_left : (nets others : List NetModel) (t : Terminal) → Lists nets t → Lists (nets ++ others) t
lists_left nets others t found = record { net = found.net; there = Contains-append_left nets others found.net found.there; lists = found.lists }

lists_right : (others nets : List NetModel) (t : Terminal) → Lists nets t → Lists (others ++ nets) t
lists_right others nets t found = record { net = found.net; there = Contains-append_right others nets found.net found.there; lists = found.lists }

in_some : (nets : List NetModel) (p : ℕ) (name : Option (List ℕ)) → Lists nets (Pin p) → IsInSomeNet nets p name
in_some nets p None found = tt
in_some nets p (Some name) found = λ named. (found.net, found.there, found.lists)

module _ (scope : NetScopeModel) where
  -- what is in some net stays in one
  still_in_some : (lists next : NetLists) (p : ℕ) (name : Option (List ℕ)) → AreGrown scope lists next → IsInSomeNet (both lists) p name
      → IsInSomeNet (both next) p name
  still_in_some lists next p None grown before = tt
  still_in_some lists next p (Some name) grown before = λ named.
      let old = before (rw grown.names at named) in
      let found = grown.kept (Pin p) (record { net = old.0; there = old.1; lists = old.2 }) in
      (found.net, found.there, found.lists)

  -- one more pin: the entries may list more, and it is in some net
  record WithPin (lists next : NetLists) (p : ℕ) (name : Option (List ℕ)) : Type 0 where
    grown : AreGrown scope lists next
    lone : IsInSomeNet (both next) p name

  itself : (lists : NetLists) → HasEntries scope lists → AreGrown scope lists lists
  itself lists entries = record { entries = entries; names = refl; kept = λ u before. before }

  module _ (lists : NetLists) (p : ℕ) (entries : HasEntries scope lists) (is_pin : p < length scope.pins) where
    none_lists : is_listed (Pin p) lists.nets ≡ false → is_listed (Pin p) lists.special ≡ false → (a : NetModel) → Contains (both lists) a
        → Contains a.terminals (Pin p) → ⊥
    none_lists none other a in_a found =
        ⊎_elim (λ here. not_listed (Pin p) lists.nets a none here found) (λ there. not_listed (Pin p) lists.special a other there found)
        (Contains-append_cases lists.nets lists.special a in_a)

    module _ (none : (a : NetModel) → Contains (both lists) a → Contains a.terminals (Pin p) → ⊥) where
      named_is : (name : List ℕ) (k l : Option ℕ) → place_of name (net_names lists.nets) ≡ k → place_of name (net_names lists.special) ≡ l
          → WithPin lists (to_entry lists p k l) p (Some name)
      named_is name (Some k) l is other =
          let less = (named_gives_within (λ (n : NetModel). n.name) name lists.nets).given k is in
          let listing = to_nets scope lists p entries is_pin none k less in
          record { grown = listing.grown; lone = in_some _ p (Some name) listing.lists_it }
      named_is name None (Some l) is other =
          let less = (named_gives_within (λ (n : NetModel). n.name) name lists.special).given l other in
          let listing = to_special scope lists p entries is_pin none l less in
          record { grown = listing.grown; lone = in_some _ p (Some name) listing.lists_it }
      named_is name None None is other = record {
        grown = itself lists entries;
        lone = λ named. absurd (named (rw (map-append (λ (n : NetModel). n.name) lists.nets lists.special)
            (no_place name (net_names lists.nets) (net_names lists.special) is other)));
      }

      to_named_is : (name : Option (List ℕ)) → WithPin lists (to_named lists p name) p name
      to_named_is None = record { grown = itself lists entries; lone = tt }
      to_named_is (Some name) =
          named_is name (place_of name (net_names lists.nets)) (place_of name (net_names lists.special)) refl refl

    pin_is : (pin : PinModel) → WithPin lists (with_lone_pin lists p pin) p pin.net_name
    unfolding with_lone_pin
    pin_is pin = by (is_listed (Pin p) lists.nets || is_listed (Pin p) lists.special) refl where
      by : (some : Bool) → (is_listed (Pin p) lists.nets || is_listed (Pin p) lists.special) ≡ some → WithPin lists (with_lone_pin lists p pin) p pin.net_name
      by true is =
          let found : Lists (both lists) (Pin p) = ⊎_elim
          (λ here. lists_left lists.nets lists.special (Pin p) (listed (Pin p) lists.nets here))
          (λ there. lists_right lists.nets lists.special (Pin p) (listed (Pin p) lists.special there))
          (or_cases (is_listed (Pin p) lists.nets) (is_listed (Pin p) lists.special) is) in
          rw is (record { grown = itself lists entries; lone = in_some (both lists) p pin.net_name found })
      by false is =
          let parts = or_parts (is_listed (Pin p) lists.nets) (is_listed (Pin p) lists.special) is in
          rw is (to_named_is (none_lists parts.0 parts.1) pin.net_name)

  -- the pins before this number are in some net
  abbrev AreInNets : NetLists → ℕ → Type 0
  AreInNets lists n = (q : ℕ) (pin : PinModel) → q < n → slice_get scope.pins q ≡ Some pin → IsInSomeNet (both lists) q pin.net_name

  -- the pins from this number on
  abbrev StandFrom : ℕ → List PinModel → Type 0
  StandFrom p pins = (i : ℕ) (pin : PinModel) → slice_get pins i ≡ Some pin → slice_get scope.pins (p + i) ≡ Some pin

  pub record HasAllPins (lists : NetLists) : Type 0 where
    pub entries : HasEntries scope lists
    pub in_nets : AreInNets lists (length scope.pins)

  all_pins : (lists : NetLists) (p : ℕ) (pins : List PinModel) → HasEntries scope lists → AreInNets lists p → StandFrom p pins
      → p + length pins ≡ length scope.pins → HasAllPins (with_lone_pins lists p pins)
  unfolding with_lone_pins
  all_pins lists p [] entries before stand long =
      record { entries = entries; in_nets = λ q pin less at. before q pin (omega arith) at }
  all_pins lists p (pin ∷ pins) entries before stand long =
      let first : p + 0 ≡ p = omega arith in
      let here : slice_get scope.pins p ≡ Some pin = rw first at (stand 0 pin refl) in
      let step = pin_is lists p entries (slice_get_within scope.pins p pin here) pin in
      let next = with_lone_pin lists p pin in
      let later : StandFrom (suc p) pins = λ i x is.
      let same : p + suc i ≡ suc p + i = omega arith in
      rw (← same) (stand (suc i) x is) in
      let so_far : AreInNets next (suc p) = λ q x less at.
      ⊎_elim
      (λ same. let found : slice_get scope.pins p ≡ Some x = ap (slice_get scope.pins) (sym same) ∙ at in
      let alike : pin ≡ x = same_Some pin x (sym here ∙ found) in
      subst (λ (j : ℕ). IsInSomeNet (both next) j x.net_name) (sym same) (subst (λ (y : PinModel). IsInSomeNet (both next) p y.net_name) alike step.lone))
      (λ other. still_in_some lists next q x.net_name step.grown (before q x (omega arith) at))
      (cases_eq q p) in
      all_pins next (suc p) pins step.grown.entries so_far later (omega arith)

  -- All lone pins are listed where they should.
  pub lone_pins_listed : (lists : NetLists) → HasEntries scope lists → HasAllPins (with_lone_pins lists 0 scope.pins)
  lone_pins_listed lists entries =
      all_pins lists 0 scope.pins entries (λ q pin less at. absurd (omega arith)) (λ i pin is. let same : 0 + i ≡ i = omega arith in rw same is) (omega arith)
