use Rattle.std.proofs.Common.{◌≡◌, ◌<◌, slice_get, None, Some, refl, ap, ◌∙◌, arith}
use Rattle.std.proofs.lemmas.Option.{slice_get_read, slice_get_past}
use Rattle.leg_design_records.specs.declared.limits.TheConstants.{ENTRY_LIMIT}
use Rattle.leg_design_records.specs.declared.records.Component.{Component}
use Rattle.leg_grammar.specs.Def.NetScope.{NetScopeModel}
use Rattle.leg_design_nets.specs.Steps.Pins.{place_in_table, numbers_under}
use Rattle.leg_design_nets.proofs.PinLookups.{found_none, found_some, in_any_case}
use Rattle.leg_design_nets.proofs.known_pins.KnownPins.pin_of_numbered.Goals as goal

pub returns-in_err-places-clause-is : goal.returns-in_err-places-clause-is
returns-in_err-places-clause-is g c =
    let component : Component = c.in_ok-component.component.now in
    let parts : c.as_slice.result.now ≡ c.self.inside.scope.now.components = c.as_slice.ensures.is ∙ ap (λ (k : NetScopeModel). k.components) c.scope.view_is in
    let there : slice_get c.as_slice.result.now c.args.number ≡ Some component =
    slice_get_read c.as_slice.result.now _ c.args.number component refl c.in_ok-component.ensures.lookup.3.0 c.in_ok-component.ensures.lookup.1 in
    let stands : slice_get c.self.inside.scope.now.components c.args.number ≡ Some component = rw parts at there in
    let none : slice_get c.self.inside.places.items component.master ≡ None =
    rw (← c.deref.ensures.value) (slice_get_past c.deref.result.now component.master c.in_err-places.ensures.lookup.3) in
    rw (← c.self.view_is) (c.from_residual-in_err-places.ensures
    ∙ found_none c.self.inside.scope.now c.self.inside.components.items c.self.inside.places.items
    (numbers_under c.self.inside.masters) c.self.invariant c.args.number component c.args.name.now stands none)

pub returns-clause-is : goal.returns-clause-is
returns-clause-is g c =
    let component : Component = c.in_ok-component.component.now in
    let parts : c.as_slice.result.now ≡ c.self.inside.scope.now.components = c.as_slice.ensures.is ∙ ap (λ (k : NetScopeModel). k.components) c.scope.view_is in
    let there : slice_get c.as_slice.result.now c.args.number ≡ Some component =
    slice_get_read c.as_slice.result.now _ c.args.number component refl c.in_ok-component.ensures.lookup.3.0 c.in_ok-component.ensures.lookup.1 in
    let stands : slice_get c.self.inside.scope.now.components c.args.number ≡ Some component = rw parts at there in
    let table = c.in_ok-places.places.now in
    let some : slice_get c.self.inside.places.items component.master ≡ Some table =
    rw (← c.deref.ensures.value) (slice_get_read c.deref.result.now _ component.master table refl c.in_ok-places.ensures.lookup.3.0
    c.in_ok-places.ensures.lookup.1) in
    let said : c.copied.result ≡ place_in_table table c.args.name.now = c.copied.ensures ∙ c.get-3.ensures.value in
    rw (← c.self.view_is) (said
    ∙ found_some c.self.inside.scope.now c.self.inside.components.items c.self.inside.places.items
    (numbers_under c.self.inside.masters) c.self.invariant c.args.number component c.args.name.now table stands some)

pub returns-clause-few : goal.returns-clause-few
returns-clause-few g c =
    let within = rw c.as_slice.ensures.is at c.in_ok-component.ensures.lookup.3.0 in
    let few = c.as_slice.ensures.few in
    let less : c.args.number < ENTRY_LIMIT = omega (arith, within, few) in
    in_any_case c.copied.result (c.args.number < ENTRY_LIMIT) less
