-- What the index of a section answers is what the definitions say.
use Rattle.std.proofs.Common.{◌≡◌, ℕ, ◌<◌, true, List, [], ◌∷◌, length, get_or, slice_get, is_some, Bor, IfSome, Option, None, Some, refl, ◌∙◌}
use Rattle.std.specs.HashMap.{HashMap}
use Rattle.std.specs.List.{flat_map}
use Rattle.std.proofs.lemmas.Bool.{false≢true}
use Rattle.std.proofs.lemmas.Option.{slice_get_within}
use Rattle.leg_lex.specs.NameLookup.{place_of}
use Rattle.leg_lib_records.specs.Records.{MasterModel}
use Rattle.leg_design_records.specs.declared.records.Component.{Component}
use Rattle.leg_grammar.specs.Def.NetScope.{NetScopeModel}
use Rattle.leg_grammar.specs.Def.Terminal.{pin_of_component}
use Rattle.leg_design_nets.specs.Steps.Pins.{is_in, pin_of_numbered, place_in_table, place_in_tables, used_names, IsPinIndex}
use Rattle.leg_design_nets.proofs.NamedNumbers.{in_joined}
use Rattle.leg_design_nets.proofs.PinTables.{pin_names}

-- a macro that has a component is asked for its pins
names_used : (master : MasterModel) (c : ℕ) (numbers : List ℕ) → is_in c numbers ≡ true → used_names master numbers ≡ pin_names master.pins
names_used master c [] there = absurd (false≢true there)
names_used master c (first ∷ numbers) there = refl

module _ (scope : NetScopeModel) (lists : List (List ℕ)) (place : ℕ → List ℕ → Option ℕ) (under : List ℕ → List ℕ)
    (index : IsPinIndex scope lists place under) where
  names_of : (c : ℕ) (component : Component) (master : MasterModel) → slice_get scope.components c ≡ Some component
      → slice_get scope.library.masters component.master ≡ Some master → used_names master (get_or lists component.master []) ≡ pin_names master.pins
  names_of c component master stands is =
      let within : component.master < length lists = rw index.long (slice_get_within scope.library.masters component.master master is) in
      names_used master c (get_or lists component.master []) (index.listed c component stands within)

  -- where a pin's name stands is the number of the pin
  pub place_is : (c : ℕ) (component : Component) (name : List ℕ) → slice_get scope.components c ≡ Some component
      → place component.master name ≡ pin_of_component scope.library component name
  place_is c component name stands = by (slice_get scope.library.masters component.master) refl where
    by : (master : Option MasterModel) → slice_get scope.library.masters component.master ≡ master
        → place component.master name ≡ pin_of_component scope.library component name
    by None is = index.places component.master name ∙ rw is refl
    by (Some master) is = index.places component.master name ∙ rw (is, names_of c component master stands is) refl

  -- a component that has a pin of the name is among those of the macros under the name
  pub is_among : (c : ℕ) (name : List ℕ) → is_some (pin_of_numbered scope c name) ≡ true → is_in c (flat_map (λ m. get_or lists m []) (under name)) ≡ true
  is_among c name has = by_component (slice_get scope.components c) refl where
    by_master : (component : Component) → slice_get scope.components c ≡ Some component → (master : Option MasterModel)
        → slice_get scope.library.masters component.master ≡ master → is_in c (flat_map (λ m. get_or lists m []) (under name)) ≡ true
    by_master component stands None is = absurd (false≢true (rw (stands, is) at has))
    by_master component stands (Some master) is =
        let within : component.master < length lists = rw index.long (slice_get_within scope.library.masters component.master master is) in
        let named : is_some (place_of name (used_names master (get_or lists component.master []))) ≡ true =
        rw (names_of c component master stands is) (rw (stands, is) at has) in
        in_joined (λ m. get_or lists m []) c component.master (under name) (index.having component.master master name is named)
        (index.listed c component stands within)

    by_component : (component : Option Component) → slice_get scope.components c ≡ component → is_in c (flat_map (λ m. get_or lists m []) (under name)) ≡ true
    by_component None is = absurd (false≢true (rw is at has))
    by_component (Some component) stands = by_master component stands (slice_get scope.library.masters component.master) refl

-- What a table of the index answers is the number of the pin; where there is none, there is no pin.
module _ {S : Type 0} (scope : NetScopeModel) (lists : List (List ℕ)) (tables : List (HashMap (Bor (List ℕ)) ℕ S)) (under : List ℕ → List ℕ)
    (index : IsPinIndex scope lists (place_in_tables tables) under) where
  pub found_none : (c : ℕ) (component : Component) (name : List ℕ) → slice_get scope.components c ≡ Some component → slice_get tables component.master ≡ None
      → None ≡ pin_of_numbered scope c name
  found_none c component name stands none =
      let is : place_in_tables tables component.master name ≡ pin_of_component scope.library component name =
      place_is scope lists (place_in_tables tables) under index c component name stands in
      rw stands (rw none at is)

  pub found_some : (c : ℕ) (component : Component) (name : List ℕ) (table : HashMap (Bor (List ℕ)) ℕ S) → slice_get scope.components c ≡ Some component
      → slice_get tables component.master ≡ Some table → place_in_table table name ≡ pin_of_numbered scope c name
  found_some c component name table stands there =
      let is : place_in_tables tables component.master name ≡ pin_of_component scope.library component name =
      place_is scope lists (place_in_tables tables) under index c component name stands in
      rw stands (rw there at is)

pub in_any_case : (o : Option ℕ) (P : Type 0) → P → IfSome o (λ x. P)
in_any_case None P is = tt
in_any_case (Some x) P is = is
