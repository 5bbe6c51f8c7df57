use Rattle.std.proofs.Common.{◌≡◌, ℕ, List, length, ap, ◌∙◌, subst}
use Rattle.leg_lib_records.specs.Records.{MasterModel}
use Rattle.leg_design_records.specs.declared.records.Component.{Component}
use Rattle.leg_grammar.specs.Def.NetScope.{NetScopeModel}
use Rattle.leg_design_nets.specs.Steps.Pins.{place_in_tables, numbers_under, AreListed, ArePinPlaces, AreUnder}
use Rattle.leg_design_nets.proofs.known_pins.KnownPins.new.Goals as goal

pub invariant_of-result : goal.invariant_of-result
invariant_of-result g c =
    let lists = c.in_ok-components.components.items in
    let of_library : c.masters-library.result.now ≡ c.args.scope.now.library.masters =
    c.masters-library.ensures.is ∙ ap (λ (k : NetScopeModel). k.library.masters) c.scope.view_is in
    let of_components : c.as_slice.result.now ≡ c.args.scope.now.components =
    c.as_slice.ensures.is ∙ ap (λ (k : NetScopeModel). k.components) c.scope.view_is in
    record {
      long = c.in_ok-components.ensures.long ∙ ap (λ (xs : List MasterModel). length xs) of_library;
      listed = subst (λ (xs : List Component). AreListed xs lists) of_components c.in_ok-components.ensures.listed;
      places =
          subst (λ (xs : List MasterModel). ArePinPlaces xs lists (place_in_tables c.in_ok-places.places.items)) of_library
          (subst (λ (ls : List (List ℕ)). ArePinPlaces c.masters-library.result.now ls
          (place_in_tables c.in_ok-places.places.items)) c.deref.ensures.value c.in_ok-places.ensures);
      having =
          subst (λ (xs : List MasterModel). AreUnder xs lists (numbers_under c.in_ok-masters.masters)) of_library
          (subst (λ (ls : List (List ℕ)). AreUnder c.masters-library.result.now ls
          (numbers_under c.in_ok-masters.masters)) c.deref-2.ensures.value c.in_ok-masters.ensures);
    }
