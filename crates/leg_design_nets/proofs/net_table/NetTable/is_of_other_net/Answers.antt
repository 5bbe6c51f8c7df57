use Rattle.std.proofs.Common.{◌≡◌, not, refl, sym, ap, ◌∙◌}
use Rattle.std.proofs.lemmas.Option.{slice_get_read, slice_get_past}
use Rattle.std.specs.Str.{bytes_eq}
use Rattle.leg_design_records.specs.Records.{NetModel}
use Rattle.leg_design_nets.specs.Steps.Index.{number_of}
use Rattle.leg_design_nets.proofs.ListedNets.{other_found, no_other, surely_there}
use Rattle.leg_design_nets.proofs.net_table.NetTable.is_of_other_net.Goals as goal

pub returns-in_default : goal.returns-in_default
returns-in_default g c =
    let none = sym c.number_of.ensures ∙ c.in_default.is in
    rw (← c.self.view_is) (sym (no_other (number_of c.self.inside.index.numbers) c.self.inside.items.items c.self.invariant.indexed c.args.terminal.now
    c.args.name.now none))

pub returns-in-Some-get : goal.returns-in-Some-get
returns-in-Some-get g c =
    let found = sym c.number_of.ensures ∙ c.in-Some.is in
    let name_is : c.bytes.result.now ≡ c.in-Some-get.net.now.name = c.bytes.ensures ∙ ap (λ (net : NetModel). net.name) c.net.view_is in
    let answer : c.ne.result ≡ not (bytes_eq c.in-Some-get.net.now.name c.args.name.now) = rw (← name_is) c.ne.ensures in
    rw (← c.self.view_is) (answer
    ∙ sym (other_found (number_of c.self.inside.index.numbers) c.self.inside.items.items c.self.invariant.indexed c.args.terminal.now c.args.name.now
    c.in-Some.number c.in-Some-get.net.now found (rw (← c.deref.ensures.value)
    (slice_get_read c.deref.result.now _ c.in-Some.number c.in-Some-get.net.now refl c.in-Some-get.ensures.lookup.3.0 c.in-Some-get.ensures.lookup.1))))

pub returns-in-None : goal.returns-in-None
returns-in-None g c =
    let found = sym c.number_of.ensures ∙ c.in-Some.is in
    absurd (surely_there (number_of c.self.inside.index.numbers) c.self.inside.items.items c.self.invariant.indexed c.args.terminal.now c.in-Some.number found
    (rw (← c.deref.ensures.value) (slice_get_past c.deref.result.now c.in-Some.number c.in-None.ensures.lookup.3)))
